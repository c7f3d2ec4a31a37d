-- The first fault, or the value where there is none.
use Rattle.arithmetic.proofs.RefusalLaws.{refused-number}
use Rattle.models.proofs.AnswerLaws.{plain-refused-on, plain-passed-on, first-left, first-passed}
use Rattle.models.proofs.data.Data.plain.Goals as goal

pub returns-in_err-fault : goal.returns-in_err-fault
returns-in_err-fault c =
    plain-refused-on _ _ _ _ _ (first-left _ c.fault.ensures.refused (refused-number c.in_err-fault.was)) _ c.in_err-fault.was c.from_residual.ensures.1

pub returns-in_err-fractions_fault : goal.returns-in_err-fractions_fault
returns-in_err-fractions_fault c =
    plain-refused-on _ _ _ _ _ (first-passed _ c.in_ok-fault.was c.fault.ensures.refused c.fractions_fault.ensures.refused) _ c.in_err-fractions_fault.was c.from_residual-in_err-fractions_fault.ensures.1

pub returns : goal.returns
returns c =
    plain-passed-on _ _ _ _ _ (first-passed _ c.in_ok-fault.was c.fault.ensures.refused c.fractions_fault.ensures.refused) c.in_ok-fractions_fault.was c.value_at.ensures
