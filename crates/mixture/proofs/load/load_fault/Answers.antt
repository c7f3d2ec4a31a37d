-- What a load is declined for: 1 of the slices first; then what the models decline.
use Rattle.std.proofs.Common.{◌∙◌}
use Rattle.mixture.specs.Faults.{load_fault}
use Rattle.models.proofs.AnswerLaws.{first-refused, first-passed}
use Rattle.mixture.proofs.CallLaws.{short_by}
use Rattle.mixture.proofs.load.load_fault.Goals as goal

pub returns-in_err-memory_fault : goal.returns-in_err-memory_fault
unfolding load_fault
returns-in_err-memory_fault c m e = first-refused c.from_residual.result _ c.in_err-memory_fault.was (c.memory_fault.ensures ∙ short_by m e) c.from_residual.ensures.1

pub returns : goal.returns
unfolding load_fault
returns c m e = first-passed _ c.in_ok-memory_fault.was (c.memory_fault.ensures ∙ short_by m e) c.fault.ensures.refused
