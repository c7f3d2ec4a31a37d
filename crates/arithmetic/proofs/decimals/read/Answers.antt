use Rattle.std.proofs.Common.{true, ◌∙◌, ap}
use Rattle.arithmetic.specs.Decimals.{unsigned_field}
use Rattle.arithmetic.proofs.decimals.Cases.{read_minus, read_plain}
use Rattle.arithmetic.proofs.decimals.read.Goals as goal

pub returns-in-Some : goal.returns-in-Some
returns-in-Some c =
    let h = c.in-Some.ensures.cases in c.unsigned.ensures ∙ ap (unsigned_field true) h.1 ∙ read_minus c.args.field.now h.0

pub returns-in-None : goal.returns-in-None
returns-in-None c = c.unsigned-in-None.ensures ∙ read_plain c.args.field.now c.in-None.ensures.cases
