-- The form of a field in document 02's words: "an optional minus, 1 to 15 digits in all, and optionally one point with a digit on
-- both sides". What is read is what this form says, and every other text is refused.
use Rattle.std.specs.Prelude.{◌≡◌, ℕ, ◌+◌, ◌<◌, ◌≤◌, Bool, true, false, ◌⊎◌, List, [], ◌∷◌, ◌++◌, length, Float}
use Rattle.arithmetic.specs.Decimals.{is_digit, valued, field_of, Rounded}
use Rattle.arithmetic.specs.Refusals.{Value, Refused}

abbrev pub AllDigits : List ℕ → Type 0
AllDigits [] = Unit {0}
AllDigits (b ∷ l) = (is_digit b ≡ true) × AllDigits l

-- an optional minus (45)
abbrev pub sign : Bool → List ℕ → List ℕ
sign true l = 45 ∷ l
sign false l = l

-- the text l has the digits a, and behind a point (46) b; or no point, and b is empty
pub data FieldForm : List ℕ → Bool → List ℕ → List ℕ → Type 0 where
  whole : (s : Bool) (a : List ℕ) → AllDigits a → 0 < length a → FieldForm (sign s a) s a []
  pointed : (s : Bool) (a b : List ℕ) → AllDigits a → 0 < length a → AllDigits b → 0 < length b
      → FieldForm (sign s (a ++ 46 ∷ b)) s a b

-- of the form, with at most 15 digits: the nearest f64
abbrev pub FieldRounds : Type 0
FieldRounds =
    (l : List ℕ) (s : Bool) (a b : List ℕ) → FieldForm l s a b → length a + length b ≤ 15
    → (r : Float) × (field_of l ≡ Value r) × Rounded s (valued (valued 0 a) b) (length b) r

-- of the form, with more: 13
abbrev pub FieldTooLong : Type 0
FieldTooLong =
    (l : List ℕ) (s : Bool) (a b : List ℕ) → FieldForm l s a b → 15 < length a + length b → field_of l ≡ Refused 13

-- any other text: 12
abbrev pub FieldElse : Type 0
FieldElse = (l : List ℕ) → (field_of l ≡ Refused 12) ⊎ ((s : Bool) × (a : List ℕ) × (b : List ℕ) × FieldForm l s a b)
