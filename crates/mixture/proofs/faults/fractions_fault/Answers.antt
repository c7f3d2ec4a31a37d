-- What fractions are declined for: 1 and 8 of the head first; then their own.
use Rattle.mixture.specs.Faults.{fractions_fault}
use Rattle.models.proofs.AnswerLaws.{first-refused, first-passed}
use Rattle.mixture.proofs.faults.fractions_fault.Goals as goal

pub returns-in_err-head_fault : goal.returns-in_err-head_fault
unfolding fractions_fault
returns-in_err-head_fault c m e = first-refused c.from_residual.result _ c.in_err-head_fault.was (c.head_fault.ensures m e) c.from_residual.ensures.1

pub returns : goal.returns
unfolding fractions_fault
returns c m e = first-passed _ c.in_ok-head_fault.was (c.head_fault.ensures m e) c.mix_fault.ensures.refused
