use Rattle.models.proofs.UnifacLaws.{value-held}
use Rattle.models.proofs.unifac.value_by.Goals as goal

pub returns : goal.returns
returns c = let pre = c.requires in value-held _ _ _ _ _ _ _ _ c.of-mixture.ensures _ c.args.q pre.0.loaded pre.0.index c.span_of-span.ensures.1 c.fill_pure.ensures c.value_over.ensures
