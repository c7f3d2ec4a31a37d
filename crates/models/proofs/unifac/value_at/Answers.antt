use Rattle.models.proofs.UnifacLaws.{value-filled}
use Rattle.models.proofs.unifac.value_at.Goals as goal

pub returns : goal.returns
returns c = let pre = c.requires in value-filled _ _ _ _ _ _ _ _ _ pre.loaded pre.index c.fill_table.ensures c.value_by.ensures
