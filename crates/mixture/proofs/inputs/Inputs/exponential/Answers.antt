-- The one place of the array takes its exp.
use Rattle.std.proofs.Common.{◌∙◌, ap, arith}
use Rattle.arithmetic.specs.Exponential.{exp_of}
use Rattle.arithmetic.specs.Tables.{up_to}
use Rattle.mixture.proofs.inputs.Inputs.exponential.Goals as goal

pub returns : goal.returns
unfolding up_to
returns g c = c.exp_each.ensures.each 0 (omega arith) ∙ ap exp_of c.argument.ensures
