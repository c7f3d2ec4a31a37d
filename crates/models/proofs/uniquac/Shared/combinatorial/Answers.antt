use lib.Ieee.{round, of_bits}
use Rattle.arithmetic.specs.Floats.{dec, half, one}
use Rattle.models.specs.Steps.Uniquac.{combinatorial_by}
use Rattle.models.specs.Uniquac.{Z, l}
use Rattle.models.proofs.uniquac.Shared.combinatorial.Goals as goal

pub returns : goal.returns
unfolding combinatorial_by l half Z one dec round of_bits
returns c = rw c.l.ensures
