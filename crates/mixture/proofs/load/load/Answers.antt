-- Refuses with what the load is declined for; else leaves values, marks and head as the callees give them.
use Rattle.std.proofs.Common.{refl, sym}
use Rattle.arithmetic.specs.Refusals.{number_of}
use Rattle.arithmetic.proofs.RefusalLaws.{number-positive}
use Rattle.models.proofs.AnswerLaws.{passed-zero}
use Rattle.mixture.specs.Answers.{answer_of, outcome_of}
use Rattle.mixture.specs.Calls.{after_load}
use Rattle.mixture.proofs.CallLaws.{refused, load_passed, load_done}
use Rattle.mixture.proofs.load.load.Goals as goal

pub returns-in-Err : goal.returns-in-Err
unfolding after_load number_of answer_of
returns-in-Err c = refused _ _ _ (c.in-Err.ensures _ c.of.ensures) (number-positive _)

pub copy-requires : goal.copy-requires
copy-requires c = (load_passed _ _ (sym (passed-zero c.in_default.is (c.load_fault.ensures _ c.of.ensures)))).values

pub stale_cells-requires : goal.stale_cells-requires
stale_cells-requires c = let f = load_passed _ _ (sym (passed-zero c.in_default.is (c.load_fault.ensures _ c.of.ensures))) in (f.width.0, f.width.1, f.marks)

pub loaded_head-requires : goal.loaded_head-requires
loaded_head-requires c = (load_passed _ _ (sym (passed-zero c.in_default.is (c.load_fault.ensures _ c.of.ensures)))).lists

pub returns : goal.returns
unfolding answer_of outcome_of
returns c =
    load_done _ _ _ (sym (passed-zero c.in_default.is (c.load_fault.ensures _ c.of.ensures))) c.copy.ensures (c.stale_cells.ensures _ (refl, refl, refl))
    c.loaded_head.ensures
