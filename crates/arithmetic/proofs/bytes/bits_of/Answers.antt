use Rattle.std.proofs.Common.{◌∙◌}
use Rattle.arithmetic.proofs.ByteLaws.{bits_are}
use Rattle.arithmetic.proofs.bytes.bits_of.Goals as goal

pub returns : goal.returns
returns c = c.f64_to_bits_with_nan.ensures ∙ bits_are c.args.v
