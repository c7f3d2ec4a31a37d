-- An answer's number, and its value where there is one: each case is the definition's.
use Rattle.std.proofs.Common.{refl}
use Rattle.arithmetic.specs.Refusals.{answer_of}
use Rattle.models.specs.Answers.{number_of}
use Rattle.kiltgrit.specs.Exports.{left}
use Rattle.kiltgrit.proofs.by_bytes.give.Goals as goal

pub returns-in-Ok : goal.returns-in-Ok
unfolding number_of left answer_of
returns-in-Ok c = rw c.in-Ok.is (refl, refl)

pub returns-in-Err : goal.returns-in-Err
unfolding number_of left answer_of
returns-in-Err c = rw c.in-Err.is (c.c_refusal.ensures, refl)
