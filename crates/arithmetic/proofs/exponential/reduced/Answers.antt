-- The code is the definition, over k as a float.
use Rattle.std.proofs.Common.{refl}
use lib.Ieee.{round, of_bits}
use Rattle.arithmetic.specs.Floats.{dec, L1, L2, one, two}
use Rattle.arithmetic.specs.Exponential.{reduced}
use Rattle.arithmetic.proofs.exponential.reduced.Goals as goal

pub returns : goal.returns
unfolding reduced L1 L2 one two dec round of_bits
returns c k e = rw (c.correction-c.ensures, e) refl
