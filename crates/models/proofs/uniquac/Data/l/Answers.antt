use Rattle.std.proofs.Common.{refl}
use lib.Ieee.{round, of_bits}
use Rattle.arithmetic.specs.Floats.{dec, half, one}
use Rattle.models.specs.Uniquac.{Z, l}
use Rattle.models.proofs.uniquac.Data.l.Goals as goal

pub returns : goal.returns
unfolding l half Z one dec round of_bits
returns c = refl
