-- The value of the plain call's answer, at the usual tolerance.
use Rattle.std.proofs.Common.{◌∙◌}
use Rattle.repeat.proofs.exports.ExportLaws.{plain_usual, value-or}
use Rattle.repeat.proofs.exports.plain_at.Goals as goal

pub returns : goal.returns
returns c = plain_usual _ _ _ _ c.usual_tolerance.ensures c.plain.ensures (c.unwrap_or.ensures ∙ value-or _)
