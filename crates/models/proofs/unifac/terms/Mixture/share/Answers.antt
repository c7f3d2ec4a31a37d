use Rattle.models.proofs.UnifacLaws.{shares-from}
use Rattle.models.proofs.unifac.terms.Mixture.share.Goals as goal

pub returns : goal.returns
returns c = shares-from _ _ _ _ _ c.sizes-r.ensures c.sizes-q.ensures c.dot-rs.ensures c.dot-qs.ensures
