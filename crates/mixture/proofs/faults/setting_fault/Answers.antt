-- What a setting is declined for: 1 and 8 of the head first; then the case's.
use Rattle.std.proofs.Common.{refl}
use Rattle.arithmetic.specs.Refusals.{number_of}
use Rattle.mixture.specs.Faults.{setting_fault}
use Rattle.models.proofs.AnswerLaws.{first-refused, first-passed}
use Rattle.mixture.proofs.CallLaws.{few_by}
use Rattle.mixture.proofs.faults.setting_fault.Goals as goal

pub returns-in_err-head_fault : goal.returns-in_err-head_fault
unfolding setting_fault
returns-in_err-head_fault c m e = first-refused c.from_residual.result _ c.in_err-head_fault.was (c.head_fault.ensures m e) c.from_residual.ensures.1

pub case_fault-requires : goal.case_fault-requires
unfolding number_of
case_fault-requires c = few_by _ _ _ _ c.in_ok-head_fault.ensures refl

pub returns : goal.returns
unfolding setting_fault
returns c m e = first-passed _ c.in_ok-head_fault.was (c.head_fault.ensures m e) (c.case_fault.ensures m)
