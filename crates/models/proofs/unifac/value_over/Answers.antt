use Rattle.models.proofs.UnifacLaws.{value-from}
use Rattle.models.proofs.unifac.value_over.Goals as goal

pub returns : goal.returns
returns c = let pre = c.requires in value-from _ _ _ _ _ _ _ _ c.of.ensures c.args.pure.now c.args.q pre.0.loaded pre.0.index c.value.ensures
