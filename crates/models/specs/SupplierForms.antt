-- A supplier's list in document 02's words: comma-separated decimals, one matrix row a line, and a line ends in one
-- line feed. A text is accepted exactly if it is written so.
use Rattle.std.specs.Prelude.{◌≡◌, Bool, List, [], ◌∷◌, ◌++◌, ℕ, ◌+◌, ◌*◌, ◌≤◌, length, Float}
use Rattle.arithmetic.specs.Floats.{dec}
use Rattle.arithmetic.specs.Decimals.{valued, Rounded}
use Rattle.arithmetic.specs.FieldForms.{FieldForm}
use Rattle.models.specs.Limits.{most_components}
use Rattle.models.specs.Suppliers.{comma, line_feed, import_fault, imported}

-- ---- fields

-- a field of the form, with its sign, its digits and those behind the point: at most 15
pub record Spelled : Type 0 where
  pub bytes : List ℕ
  pub minus : Bool
  pub whole : List ℕ
  pub behind : List ℕ
  pub form : FieldForm bytes minus whole behind
  pub few : length whole + length behind ≤ 15

-- all its digits as one number
abbrev pub digits_of : Spelled → ℕ
digits_of f = valued (valued 0 f.whole) f.behind

abbrev pub value_as : Spelled → Float
value_as f = dec f.minus (digits_of f) (length f.behind)

-- it is the nearest f64
abbrev pub ValueRounded : Type 0
ValueRounded = (f : Spelled) → Rounded f.minus (digits_of f) (length f.behind) (value_as f)

-- ---- rows

-- a row's fields, with commas between them
abbrev pub row : List Spelled → List ℕ
row [] = []
row (f ∷ []) = f.bytes
row (f ∷ g ∷ fs) = f.bytes ++ comma ∷ row (g ∷ fs)

-- each row on a line, which a line feed ends
abbrev pub lines : List (List Spelled) → List ℕ
lines [] = []
lines (r ∷ rows) = row r ++ line_feed ∷ lines rows

-- rows of n
abbrev pub Wide : ℕ → List (List Spelled) → Type 0
Wide n [] = Unit {0}
Wide n (r ∷ rows) = (length r ≡ n) × Wide n rows

-- n of them
abbrev pub Matrix : ℕ → List (List Spelled) → Type 0
Matrix n rows = (length rows ≡ n) × Wide n rows

abbrev pub row_values : List Spelled → List Float
row_values [] = []
row_values (f ∷ fs) = value_as f ∷ row_values fs

-- the values by rows
abbrev pub values_as : List (List Spelled) → List Float
values_as [] = []
values_as (r ∷ rows) = row_values r ++ values_as rows

-- ---- what is accepted

-- what passes 2
abbrev pub Shaped : ℕ → List Float → Type 0
Shaped n entries = (1 ≤ n) × (n ≤ most_components) × (length entries ≡ n * n)

-- a matrix of n rows is accepted, and the slice then holds its values ..
abbrev pub Accepts : Type 0
Accepts =
    (n : ℕ) (entries : List Float) (rows : List (List Spelled)) → Shaped n entries → Matrix n rows
    → (import_fault n entries (lines rows) ≡ 0) × (imported n entries (lines rows) ≡ values_as rows)

-- .. and no other text is
abbrev pub OnlyMatrices : Type 0
OnlyMatrices =
    (n : ℕ) (entries : List Float) (s : List ℕ) → import_fault n entries s ≡ 0
    → Shaped n entries × ((rows : List (List Spelled)) × Matrix n rows × (s ≡ lines rows))
