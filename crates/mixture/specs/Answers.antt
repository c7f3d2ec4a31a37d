-- What a call answers: document 01's number, value and count for each case.
use Rattle.std.specs.Prelude.{cond, List, [], ◌∷◌, ℕ, eqb, Float, Result, Ok, Err}
use Rattle.arithmetic.specs.Floats.{+0}
use Rattle.arithmetic.specs.declared.refusal.Refusal.{Refusal}
use Rattle.arithmetic.specs.Refusals.{number}
use Rattle.mixture.specs.declared.answers.Outcome.{Outcome}
use Rattle.mixture.specs.declared.answers.Outcome.TheVariants.{Done as Finished, Value as Worked}

-- an answer in document 01's words: the number of a refusal, done, or a value with the number of cells worked
pub data Answer : Type 0 where
  Refused : ℕ → Answer
  Done : Answer
  Value : Float → ℕ → Answer

-- what a call that isn't refused answers, in these words
unfoldable pub outcome_of : Outcome → Answer
outcome_of Finished = Done
outcome_of (Worked v count) = Value v count

-- a call's result in these words
unfoldable pub answer_of : Result Outcome Refusal → Answer
answer_of (Ok a) = outcome_of a
answer_of (Err r) = Refused (number r)

-- the number of a refusal, 0 for none
unfoldable pub number_of : Answer → ℕ
number_of (Refused k) = k
number_of Done = 0
number_of (Value v count) = 0

-- the value and the number of cells worked, of an answered query
unfoldable pub values_of : Answer → List Float
values_of (Refused k) = []
values_of Done = []
values_of (Value v count) = v ∷ []

unfoldable pub counts_of : Answer → List ℕ
counts_of (Refused k) = []
counts_of Done = []
counts_of (Value v count) = count ∷ []

-- the value, 0 where there is none
unfoldable pub value_of : Answer → Float
value_of (Refused k) = +0
value_of Done = +0
value_of (Value v count) = v

-- a refusal with the number k, or where k is 0 the answer given
abbrev pub unless : ℕ → Answer → Answer
unless k a = cond (eqb k 0) a (Refused k)
