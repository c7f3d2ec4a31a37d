-- An opening, a load and the fractions: each call's contract is the definition's step.
use Rattle.repeat.proofs.exports.ExportLaws.{begun-is}
use Rattle.repeat.proofs.exports.begin.Goals as goal

pub returns : goal.returns
returns c = begun-is _ _ _ _ c.open-opened.ensures c.load-loaded.ensures c.fractions.ensures
