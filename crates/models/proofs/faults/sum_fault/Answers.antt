-- Whether a sum is off 1 by more than the tolerance: |d| > t is d > t or d < -t.
use mathlib.Core.Path.{◌≡◌, refl}
use mathlib.Core.Bool.{◌||◌, cond}
use lib.Ieee.{Float, binary64, round, of_bits, lt, neg}
use Rattle.arithmetic.specs.Floats.{◌⊖◌, dec, one}
use Rattle.arithmetic.specs.Refusals.{number, number_of}
use Rattle.arithmetic.proofs.AbsLaws.{lt-abs}
use Rattle.models.specs.Faults.{sum_fault}
use Rattle.models.proofs.faults.sum_fault.Goals.{then-off-tolerance-via-then-off-tolerance, then-off-tolerance-via-else-off-tolerance+then-off-tolerance-2}
use Rattle.models.proofs.faults.sum_fault.Goals as goal

-- the code's 1.0
abbrev unit : Float
unit = of_bits binary64 0x3ff0_0000_0000_0000

unit-is : unit ≡ one
unfolding one dec round of_bits
unit-is = refl

by_tests : (ε s : Float) → cond (lt ε (s ⊖ unit) || lt (s ⊖ unit) (neg ε)) 6 0 ≡ sum_fault ε s
unfolding sum_fault
by_tests ε s = rw (← unit-is, lt-abs ε (s ⊖ unit))

pub returns-then-off-tolerance : goal.returns-then-off-tolerance
unfolding number number_of
returns-then-off-tolerance c = elim c.then-off-tolerance.branch [
  | then-off-tolerance-via-then-off-tolerance w ↦ simp w.if-off-tolerance.true at (by_tests c.args.tolerance c.args.total)
  | then-off-tolerance-via-else-off-tolerance+then-off-tolerance-2 w ↦ simp (w.if-off-tolerance.false, w.if-off-tolerance-2.true) at (by_tests c.args.tolerance c.args.total)
]

pub returns : goal.returns
unfolding number_of
returns c = simp (c.if-off-tolerance.false, c.if-off-tolerance-2.false) at (by_tests c.args.tolerance c.args.total)
