-- The code is the definition, its coefficients read from the table.
use Rattle.std.proofs.Common.{refl}
use lib.Ieee.{round, of_bits}
use Rattle.arithmetic.specs.Floats.{dec}
use Rattle.arithmetic.specs.Logarithm.{remainder, G1, G2, G3, G4, G5, G6, G7}
use Rattle.arithmetic.proofs.logarithm.remainder.Goals as goal

pub returns : goal.returns
unfolding remainder G1 G2 G3 G4 G5 G6 G7 dec round of_bits
returns c = refl
