-- Whether a query may be answered: 1 and 8 of the head first, then 9 for T or the fractions.
use Rattle.std.proofs.Common.{refl}
use Rattle.arithmetic.specs.Refusals.{number_of, number}
use Rattle.mixture.specs.Faults.{ready_fault}
use Rattle.models.proofs.AnswerLaws.{first-refused}
use Rattle.mixture.proofs.CallLaws.{ready_no_t, ready_no_x, ready_none}
use Rattle.mixture.proofs.faults.ready_fault.Goals as goal
use Rattle.mixture.proofs.faults.ready_fault.Goals.{else-head-via-then-head+else-head-2, else-head-via-else-head}

pub returns-in_err-head_fault : goal.returns-in_err-head_fault
unfolding ready_fault
returns-in_err-head_fault c m e = first-refused c.from_residual.result _ c.in_err-head_fault.was (c.head_fault.ensures m e) c.from_residual.ensures.1

pub returns-then-head-2 : goal.returns-then-head-2
unfolding number_of
returns-then-head-2 c m e = ready_none m _ (c.in_ok-head_fault.ensures m e) refl c.if-head.true c.if-head-2.true

pub returns : goal.returns
unfolding number_of number
returns c m e =
    elim c.else-head.branch [
      | else-head-via-then-head+else-head-2 w ↦ ready_no_x m _ (c.in_ok-head_fault.ensures m e) refl w.if-head.true w.if-head-2.false
      | else-head-via-else-head w ↦ ready_no_t m _ (c.in_ok-head_fault.ensures m e) refl w.if-head.false
    ]
