-- What a head is declined for: 1 of the slices first; then 8, 1 for a model out of range, and 1 for what it uses.
use Rattle.std.proofs.Common.{◌≡◌, ℕ, sym, ◌∙◌}
use Rattle.std.specs.Prelude.{Result, Ok, Err, is_ok}
use Rattle.models.specs.declared.model.Model.{Model}
use Rattle.models.specs.declared.model.UnknownModel.{UnknownModel}
use Rattle.models.specs.Model.{is_model, Numbered}
use Rattle.arithmetic.specs.Refusals.{number_of, number}
use Rattle.mixture.specs.Faults.{memory_fault, head_fault}
use Rattle.models.proofs.AnswerLaws.{first-refused}
use Rattle.mixture.proofs.CallLaws.{short_by, judged_none, judged_many, judged_by}
use Rattle.mixture.proofs.faults.head_fault.Goals as goal
use Rattle.mixture.proofs.faults.head_fault.Goals.{else-known-via-then-known+else-in_range, else-known-via-else-known}

pub returns-in_err-memory_fault : goal.returns-in_err-memory_fault
unfolding head_fault
returns-in_err-memory_fault c m e = first-refused c.from_residual.result _ c.in_err-memory_fault.was (c.memory_fault.ensures ∙ short_by m e) c.from_residual.ensures.1

pub returns-then-head-eq0 : goal.returns-then-head-eq0
unfolding number_of number
returns-then-head-eq0 c m e = judged_none m _ (sym (c.in_ok-memory_fault.ensures ∙ short_by m e)) c.if-head-eq0.true

-- a number gives a model where it is one's
known : (k : ℕ) {j : ℕ} (r : Result Model UnknownModel) → j ≡ k → Numbered j r → is_ok r ≡ is_model k
known k (Ok m) e n = sym n.0 ∙ rw e
known k (Err u) e n = sym n.0 ∙ rw e

pub returns-then-in_range : goal.returns-then-in_range
unfolding number_of
returns-then-in_range c m e =
    judged_by m _ (sym (c.in_ok-memory_fault.ensures ∙ short_by m e)) c.if-head-eq0.false (sym (known _ _ c.from.ensures c.try_from.ensures) ∙ sym c.if-known.ensures.value) (c.if-in_range.ensures m)

pub returns : goal.returns
unfolding number_of number
returns c m e =
    let long : memory_fault m ≡ 0 = sym (c.in_ok-memory_fault.ensures ∙ short_by m e) in
    elim c.else-known.branch [
      | else-known-via-then-known+else-in_range w ↦ judged_by m _ long c.if-head-eq0.false (sym (known _ _ c.from.ensures c.try_from.ensures) ∙ sym w.if-known.ensures.value) (sym w.if-in_range.false ∙ w.in_range.ensures m)
      | else-known-via-else-known w ↦ judged_many m _ long c.if-head-eq0.false (sym (known _ _ c.from.ensures c.try_from.ensures) ∙ sym w.if-known.ensures.value)
    ]
