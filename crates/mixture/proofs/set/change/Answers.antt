-- What a setting does: nothing where it is declined; else values and marks are as the callees leave them.
use Rattle.std.proofs.Common.{sym, refl, arith}
use Rattle.arithmetic.specs.Refusals.{number_of}
use Rattle.arithmetic.proofs.RefusalLaws.{refused-number}
use Rattle.std.proofs.lemmas.Result.{err_from_is_err_and}
use Rattle.models.proofs.AnswerLaws.{refused-on}
use Rattle.mixture.proofs.SetLaws.{set-fits, set-done, set-refused}
use Rattle.mixture.proofs.set.change.Goals as goal

pub returns-in_err-setting_fault : goal.returns-in_err-setting_fault
unfolding number_of
returns-in_err-setting_fault c =
    set-refused _ _ _ (refused-on c.from_residual.result c.in_err-setting_fault.was (c.setting_fault.ensures _ c.of.ensures) c.from_residual.ensures.1)
    (refused-number (err_from_is_err_and c.from_residual.result c.from_residual.ensures.1).1)

pub store_at-at-requires : goal.store_at-at-requires
unfolding number_of
store_at-at-requires c = (set-fits _ _ _ (sym (c.in_ok-setting_fault.ensures _ c.of.ensures))).ok

pub put-requires : goal.put-requires
unfolding number_of
put-requires c = omega (arith, (set-fits _ _ _ (sym (c.in_ok-setting_fault.ensures _ c.of.ensures))).values, c.store_at-at.ensures)

pub stale_by-requires : goal.stale_by-requires
unfolding number_of
stale_by-requires c = let f = set-fits _ _ _ (sym (c.in_ok-setting_fault.ensures _ c.of.ensures)) in (f.ok, f.marks)

pub returns : goal.returns
unfolding number_of
returns c = set-done _ _ _ (sym (c.in_ok-setting_fault.ensures _ c.of.ensures)) c.store_at-at.ensures c.put.ensures c.stale_by.ensures refl
