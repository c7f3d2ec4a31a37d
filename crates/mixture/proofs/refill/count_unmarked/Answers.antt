-- A turn counts its mark where that is other than 1.
use Rattle.std.proofs.Common.{arith}
use Rattle.mixture.proofs.refill.FreshLaws.{many-none, many_more, many_skip, many-few, is-unmarked, is-marked}
use Rattle.mixture.proofs.refill.count_unmarked.Goals.{then-mark-ne-FRESH, else-mark-ne-FRESH}
use Rattle.mixture.proofs.refill.count_unmarked.Goals as goal

pub loop-mark-init : goal.loop-mark-init
loop-mark-init c = many-none _

pub overflow_add-count : goal.overflow_add-count
overflow_add-count c = omega (arith, many-few _ _ c.loop-mark.invariant)

pub loop-mark-preserved : goal.loop-mark-preserved
loop-mark-preserved c =
    elim c.if-mark-ne-FRESH.branch [
      | then-mark-ne-FRESH w ↦ many_more _ _ c.loop-mark.invariant (is-unmarked _ w.if-mark-ne-FRESH.true) w.count-is
      | else-mark-ne-FRESH w ↦ many_skip _ _ c.loop-mark.invariant (is-marked _ w.if-mark-ne-FRESH.false) w.count-is
    ]
