-- The plain calls where the change asks for them, else the mixture: the definition's test.
use Rattle.repeat.proofs.exports.ExportLaws.{repeated-plain, repeated-kept}
use Rattle.repeat.proofs.exports.repeat.Goals as goal

pub returns-then-change-eq3 : goal.returns-then-change-eq3
returns-then-change-eq3 c = repeated-plain _ _ _ _ _ _ _ c.if-change-eq3.true c.plain_each.ensures

pub returns : goal.returns
returns c = repeated-kept _ _ _ _ _ _ _ c.if-change-eq3.false c.kept.ensures
