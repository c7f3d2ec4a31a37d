-- Refusals and their numbers.
use mathlib.Core.Path.{◌≡◌, refl, sym, ap, ◌∙◌}
use mathlib.Core.Bool.{cond}
use Prim.Native.Nat.{ℕ}
use native.Mathlib.Omega.{arith}
use lib.Dec.{eqb}
use Rattle.std.specs.Prelude.{Result, Ok, Err}
use Rattle.arithmetic.specs.declared.refusal.Refusal.{Refusal}
use Rattle.arithmetic.specs.declared.refusal.Refusal.TheVariants.{Memory, Shape, Group, Count, Empty, Sum, Index, NoModel, Unset, NoSuchCase, NotShown, Form, Digits, Tolerance}
use Rattle.arithmetic.specs.Refusals.{number, number_of, Value, answer_of}

-- none has the number 0
pub number-positive : (r : Refusal) → number r ≡ 0 → ⊥
unfolding number
number-positive Memory e = omega (arith, e)
number-positive Shape e = omega (arith, e)
number-positive Group e = omega (arith, e)
number-positive Count e = omega (arith, e)
number-positive Empty e = omega (arith, e)
number-positive Sum e = omega (arith, e)
number-positive Index e = omega (arith, e)
number-positive NoModel e = omega (arith, e)
number-positive Unset e = omega (arith, e)
number-positive NoSuchCase e = omega (arith, e)
number-positive NotShown e = omega (arith, e)
number-positive Form e = omega (arith, e)
number-positive Digits e = omega (arith, e)
number-positive Tolerance e = omega (arith, e)

-- a number is one refusal's, so that a contract on numbers, or on an answer in the documents' words, is one on the result itself
unfoldable numbered : ℕ → Refusal
numbered k = cond (eqb k 1) Memory (cond (eqb k 2) Shape (cond (eqb k 3) Group (cond (eqb k 4) Count (cond (eqb k 5) Empty (cond (eqb k 6) Sum (cond (eqb k 7) Index (cond (eqb k 8) NoModel (cond (eqb k 9) Unset (cond (eqb k 10) NoSuchCase (cond (eqb k 11) NotShown (cond (eqb k 12) Form (cond (eqb k 13) Digits Tolerance))))))))))))

numbered_back : (r : Refusal) → numbered (number r) ≡ r
unfolding number numbered
numbered_back Memory = refl
numbered_back Shape = refl
numbered_back Group = refl
numbered_back Count = refl
numbered_back Empty = refl
numbered_back Sum = refl
numbered_back Index = refl
numbered_back NoModel = refl
numbered_back Unset = refl
numbered_back NoSuchCase = refl
numbered_back NotShown = refl
numbered_back Form = refl
numbered_back Digits = refl
numbered_back Tolerance = refl

pub number-same : (r s : Refusal) → number r ≡ number s → r ≡ s
number-same r s e = sym (numbered_back r) ∙ (ap numbered e ∙ numbered_back s)

-- a refusal has a number, and what isn't refused has 0
pub refused-number : {A : Type 0} {r : Result A Refusal} {e : Refusal} → r ≡ Err e → number_of r ≡ 0 → ⊥
unfolding number_of
refused-number {A} {r} {e} is z = number-positive e (sym (by-result is) ∙ z)
  where
    by-result : {s : Result A Refusal} → s ≡ Err e → number_of s ≡ number e
    by-result p = rw p refl

pub passed-number : {A : Type 0} {r : Result A Refusal} {a : A} → r ≡ Ok a → number_of r ≡ 0
unfolding number_of
passed-number is = rw is refl

-- the documents' word for what isn't refused
pub value-of : {A : Type 0} {r : Result A Refusal} {a : A} → r ≡ Ok a → answer_of r ≡ Value a
unfolding answer_of
value-of is = rw is refl
