-- What a call is refused for, by the numbers of documents 01 and 02.
use Rattle.std.specs.Prelude.{ℕ, Result, Ok, Err}
use Rattle.arithmetic.specs.declared.refusal.Refusal.{Refusal}
use Rattle.arithmetic.specs.declared.refusal.Refusal.TheVariants.{Memory, Shape, Group, Count, Empty, Sum, Index, NoModel, Unset, NoSuchCase, NotShown, Form, Digits, Tolerance}

-- a refusal's number
unfoldable pub number : Refusal → ℕ
number Memory = 1
number Shape = 2
number Group = 3
number Count = 4
number Empty = 5
number Sum = 6
number Index = 7
number NoModel = 8
number Unset = 9
number NoSuchCase = 10
number NotShown = 11
number Form = 12
number Digits = 13
number Tolerance = 14

-- the number of what a call is refused for, 0 for nothing
unfoldable pub number_of : {A : Type 0} → Result A Refusal → ℕ
number_of (Ok a) = 0
number_of (Err r) = number r

-- an answer in the documents' words: a value, or the number of a refusal
pub data Answer (A : Type 0) : Type 0 where
  Value : A → Answer A
  Refused : ℕ → Answer A

-- a call's result in these words
unfoldable pub answer_of : {A : Type 0} → Result A Refusal → Answer A
answer_of (Ok a) = Value a
answer_of (Err r) = Refused (number r)
