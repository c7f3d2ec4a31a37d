-- The combinatorial term, operation by operation as the definition has it.
use lib.Ieee.{of_bits, round}
use Rattle.arithmetic.specs.Floats.{dec, one}
use Rattle.models.specs.Unifac.{combinatorial_by, five}
use Rattle.models.proofs.unifac.terms.combinatorial.Goals as goal

pub returns : goal.returns
unfolding combinatorial_by one five dec round of_bits
returns c = rw (c.log.ensures, c.log-2.ensures)
