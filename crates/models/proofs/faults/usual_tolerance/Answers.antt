-- The code's literal is the definition's decimal.
use mathlib.Core.Path.{refl}
use lib.Ieee.{round, of_bits}
use Rattle.arithmetic.specs.Floats.{dec}
use Rattle.models.specs.Faults.{usual_tolerance}
use Rattle.models.proofs.faults.usual_tolerance.Goals as goal

pub returns : goal.returns
unfolding usual_tolerance dec round of_bits
returns c = refl
