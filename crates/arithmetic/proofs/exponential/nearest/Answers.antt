-- The code is the definition.
use Rattle.std.proofs.Common.{refl}
use lib.Ieee.{of_bits}
use Rattle.arithmetic.specs.Steps.Nearest.{nearest}
use Rattle.arithmetic.proofs.exponential.nearest.Goals as goal

pub returns : goal.returns
unfolding nearest of_bits
returns c = refl
