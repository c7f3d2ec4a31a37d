-- Refuses with what a query is declined for; else leaves the refilled cells and answers with the value and the count.
use Rattle.std.proofs.Common.{sym, ◌∙◌, ap}
use Rattle.arithmetic.specs.Refusals.{number_of}
use Rattle.arithmetic.proofs.RefusalLaws.{number-positive}
use Rattle.mixture.specs.Memory.{memory, after}
use Rattle.mixture.proofs.CallLaws.{answer-handed}
use Rattle.mixture.specs.Answers.{answer_of, outcome_of}
use Rattle.mixture.proofs.query.QueryLaws.{query_refused, query_answered}
use Rattle.mixture.proofs.query.answered.Goals as goal

pub returns-in_err-query_fault : goal.returns-in_err-query_fault
unfolding number_of
returns-in_err-query_fault c =
    ap (after (memory c.args.values.now c.args.cells.now c.args.marks.now) c.args.head.now) (answer-handed c.from_residual.result _ c.from_residual.ensures.1)
    ∙ query_refused _ _ _ (c.in_err-query_fault.ensures _ c.of.ensures) (number-positive _)

pub solve-worked-requires : goal.solve-worked-requires
unfolding number_of
solve-worked-requires c = sym (c.in_ok-query_fault.ensures _ c.of.ensures)

pub returns : goal.returns
unfolding number_of answer_of outcome_of
returns c = query_answered _ _ _ (sym (c.in_ok-query_fault.ensures _ c.of.ensures)) c.solve-worked.ensures
