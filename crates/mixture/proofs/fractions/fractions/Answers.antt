-- Refuses with what the fractions are declined for; else gives the head with the padded fractions back.
use Rattle.std.proofs.Common.{sym, arith}
use lib.Ieee.{of_bits}
use Rattle.arithmetic.specs.Refusals.{number_of}
use Rattle.arithmetic.proofs.RefusalLaws.{number-positive}
use Rattle.mixture.specs.Answers.{answer_of, outcome_of}
use Rattle.mixture.specs.Calls.{after_fractions}
use Rattle.mixture.proofs.CallLaws.{refused, done, fractions-fit}
use Rattle.mixture.proofs.fractions.fractions.Goals as goal

pub padded-requires : goal.padded-requires
unfolding number_of
padded-requires c = (omega arith, fractions-fit _ _ _ (sym (c.in-Ok.ensures _ c.of.ensures)))

pub returns-in-Ok : goal.returns-in-Ok
unfolding after_fractions number_of answer_of outcome_of of_bits
returns-in-Ok c = done _ _ (sym (c.in-Ok.ensures _ c.of.ensures)) (rw c.padded.ensures)

pub returns-in-Err : goal.returns-in-Err
unfolding after_fractions number_of answer_of
returns-in-Err c = refused _ _ _ (c.in-Err.ensures _ c.of.ensures) (number-positive _)
