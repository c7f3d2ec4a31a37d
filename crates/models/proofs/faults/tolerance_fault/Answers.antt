-- The three tests in turn; the code's 1e-3 is the definition's decimal.
use lib.Ieee.{round, of_bits}
use Rattle.arithmetic.specs.Floats.{dec}
use Rattle.arithmetic.specs.Refusals.{number, number_of}
use Rattle.models.specs.Faults.{widest_tolerance}
use Rattle.models.proofs.ToleranceLaws.{tolerance_nan, tolerance-below, tolerance-above, tolerance-passes}
use Rattle.models.proofs.faults.tolerance_fault.Goals.{then-tolerance-via-then-tolerance, then-tolerance-via-else-tolerance+then-tolerance-2, then-tolerance-via-else-tolerance+else-tolerance-2+then-tolerance-3}
use Rattle.models.proofs.faults.tolerance_fault.Goals as goal

pub returns-then-tolerance : goal.returns-then-tolerance
unfolding number number_of widest_tolerance dec round of_bits
returns-then-tolerance c = elim c.then-tolerance.branch [
  | then-tolerance-via-then-tolerance w ↦ tolerance_nan _ w.if-tolerance.true
  | then-tolerance-via-else-tolerance+then-tolerance-2 w ↦ tolerance-below _ w.if-tolerance.false w.if-tolerance-2.true
  | then-tolerance-via-else-tolerance+else-tolerance-2+then-tolerance-3 w ↦ tolerance-above _ w.if-tolerance.false w.if-tolerance-2.false w.if-tolerance-3.true
]

pub returns : goal.returns
unfolding number_of widest_tolerance dec round of_bits
returns c = tolerance-passes _ c.if-tolerance.false c.if-tolerance-2.false c.if-tolerance-3.false
