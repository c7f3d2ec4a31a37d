-- Done, or what the setting was declined for.
use Rattle.arithmetic.specs.Refusals.{number_of}
use Rattle.arithmetic.proofs.RefusalLaws.{number-positive}
use borrow.Author.Tests.{ne_eqb}
use Rattle.mixture.specs.Answers.{answer_of, outcome_of}
use Rattle.mixture.proofs.set.answer_by.Goals as goal

pub returns-in-Ok : goal.returns-in-Ok
unfolding number_of answer_of outcome_of
returns-in-Ok c = rw c.in-Ok.is

pub returns-in-Err : goal.returns-in-Err
unfolding number_of answer_of
returns-in-Err c = rw (c.in-Err.is, ne_eqb _ 0 (number-positive c.in-Err.refusal))
