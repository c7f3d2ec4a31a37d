-- What a query is declined for: 1, 8 and 9 first; then 7.
use Rattle.mixture.specs.Faults.{query_fault}
use Rattle.models.proofs.AnswerLaws.{first-refused, first-passed}
use Rattle.mixture.proofs.faults.query_fault.Goals as goal

pub returns-in_err-ready_fault : goal.returns-in_err-ready_fault
unfolding query_fault
returns-in_err-ready_fault c m e = first-refused c.from_residual.result _ c.in_err-ready_fault.was (c.ready_fault.ensures m e) c.from_residual.ensures.1

pub returns : goal.returns
unfolding query_fault
returns c m e = first-passed _ c.in_ok-ready_fault.was (c.ready_fault.ensures m e) c.index_fault.ensures
