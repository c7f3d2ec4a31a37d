-- Refuses with 1 where a slice is short, by the three lengths; else gives the head without a model back.
use Rattle.std.proofs.Common.{sym, ◌∙◌}
use Rattle.arithmetic.specs.Refusals.{number_of}
use Rattle.arithmetic.proofs.RefusalLaws.{number-positive}
use Rattle.mixture.specs.Answers.{answer_of, outcome_of}
use Rattle.mixture.specs.Calls.{after_open}
use Rattle.mixture.proofs.CallLaws.{short_by, refused, done}
use Rattle.mixture.proofs.open.open.Goals as goal

pub returns-in-Ok : goal.returns-in-Ok
unfolding after_open number_of answer_of outcome_of
returns-in-Ok c = done _ _ (sym (c.in-Ok.ensures ∙ short_by _ c.of.ensures)) (rw c.no_head.ensures)

pub returns-in-Err : goal.returns-in-Err
unfolding after_open number_of answer_of
returns-in-Err c = refused _ _ _ (c.in-Err.ensures ∙ short_by _ c.of.ensures) (number-positive _)
