-- A mixture on zeros, from its opening to its last turn: each call's contract is the definition's step.
use Rattle.std.proofs.Common.{◌*◌}
use Rattle.arithmetic.specs.Bytes.{float_at}
use Rattle.repeat.proofs.exports.ExportLaws.{kept-is}
use Rattle.repeat.proofs.exports.kept.Goals as goal

pub returns : goal.returns
returns c = kept-is _ _ _ _ _ (λ k. float_at c.args.temperatures.now (8 * k)) _ _ c.no_head.ensures c.begin-start.ensures c.keep.ensures
