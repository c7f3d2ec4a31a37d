-- The code is the definition, its coefficients read from the table.
use Rattle.std.proofs.Common.{refl}
use lib.Ieee.{round, of_bits}
use Rattle.arithmetic.specs.Floats.{dec}
use Rattle.arithmetic.specs.Exponential.{correction, P1, P2, P3, P4, P5}
use Rattle.arithmetic.proofs.exponential.correction.Goals as goal

pub returns : goal.returns
unfolding correction P1 P2 P3 P4 P5 dec round of_bits
returns c = refl
