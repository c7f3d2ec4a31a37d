-- A turn counts its mark where that is other than 1.
use Rattle.std.proofs.Common.{arith}
use Rattle.mixture.proofs.refill.FreshLaws.{many-none, many_more, many_skip, many-few, is-unmarked, is-marked}
use Rattle.mixture.proofs.refill.count_diagonal.Goals.{then-marks-i-ne-FRESH, else-marks-i-ne-FRESH}
use Rattle.mixture.proofs.refill.count_diagonal.Goals as goal

pub loop-i-init : goal.loop-i-init
loop-i-init c = many-none _

pub overflow_add-count : goal.overflow_add-count
overflow_add-count c = omega (arith, many-few _ _ c.loop-i.invariant)

pub loop-i-preserved : goal.loop-i-preserved
loop-i-preserved c =
    elim c.if-marks-i-ne-FRESH.branch [
      | then-marks-i-ne-FRESH w ↦ many_more _ _ c.loop-i.invariant (is-unmarked _ w.if-marks-i-ne-FRESH.true) w.count-is
      | else-marks-i-ne-FRESH w ↦ many_skip _ _ c.loop-i.invariant (is-marked _ w.if-marks-i-ne-FRESH.false) w.count-is
    ]
