-- A number that is no setting's makes a count, as the definition says.
use Rattle.std.proofs.Common.{◌∙◌}
use Rattle.strip.proofs.KindLaws.{same_setting_number}
use Rattle.strip.proofs.kinds.setting_of.Goals as goal

pub returns : goal.returns
returns c = c.setting.ensures ∙ rw c.unwrap_or.ensures (same_setting_number _ _ _ _ _ c.try_from.ensures)
