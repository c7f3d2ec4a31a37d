-- The first fault, or the value of the decoded fractions.
use Rattle.std.proofs.Common.{◌∙◌}
use Rattle.std.proofs.lemmas.Result.{IfOk-at_ok}
use Rattle.arithmetic.proofs.RefusalLaws.{refused-number}
use Rattle.models.proofs.AnswerLaws.{first-left, first-passed}
use Rattle.kiltgrit.proofs.by_bytes.ExportLaws.{whole_eights, rest-refused, rest-value}
use Rattle.kiltgrit.proofs.by_bytes.call_with.Goals as goal

pub returns-in_err-fault : goal.returns-in_err-fault
returns-in_err-fault c =
    rest-refused _ _ _ _ _ (first-left _ c.fault.ensures.refused (refused-number c.in_err-fault.was)) _ c.in_err-fault.was c.from_residual.ensures.1

pub returns-in_err-fractions_fault : goal.returns-in_err-fractions_fault
returns-in_err-fractions_fault c =
    rest-refused _ _ _ _ _ (first-passed _ c.in_ok-fault.was c.fault.ensures.refused c.fractions_fault.ensures.refused) _ c.in_err-fractions_fault.was c.from_residual-in_err-fractions_fault.ensures.1

pub returns : goal.returns
returns c =
    let whole = IfOk-at_ok _ c.in_ok-fractions_fault.was c.fractions_fault.ensures.passed in
    let decoded = c.fill_floats.ensures.1 ∙ whole_eights c.args.x.now c.args.given.n whole.0 in
    rest-value _ _ _ _ _ (first-passed _ c.in_ok-fault.was c.fault.ensures.refused c.fractions_fault.ensures.refused) c.in_ok-fractions_fault.was
    (c.value_at.ensures ∙ rw decoded)
