-- A supplier's list of energies: document 02, Change 2. Its fields are read in turn, and the first fault decides.
use Rattle.std.specs.Prelude.{Bool, ◌||◌, cond, List, [], ◌∷◌, ℕ, zero, suc, ◌+◌, ◌*◌, ◌%◌, eqb, length, get_or, take, drop, Float}
use Rattle.arithmetic.specs.Decimals.{field_of, field_number, field_value}
use Rattle.models.specs.Answers.{first}
use Rattle.models.specs.Faults.{shape_fault}

abbrev pub comma : ℕ
comma = 44

abbrev pub line_feed : ℕ
line_feed = 10

-- ---- the field that stands first in a text

abbrev pub ends : ℕ → Bool
ends b = eqb b comma || eqb b line_feed

-- how many bytes stand before the first comma or line feed, or the text's end
unfoldable pub field_length : List ℕ → ℕ
field_length [] = 0
field_length (b ∷ s) = cond (ends b) 0 (suc (field_length s))

-- the field, the byte that ends it (0 where the text ends), and what follows that
abbrev pub field : List ℕ → List ℕ
field s = take (field_length s) s

abbrev pub ending : List ℕ → ℕ
ending s = get_or s (field_length s) 0

abbrev pub rest : List ℕ → List ℕ
rest s = drop (field_length s + 1) s

-- ---- so many fields, in rows of n

-- what has to end a field that m more follow: a line feed at the end of a row, else a comma
abbrev pub separator : ℕ → ℕ → ℕ
separator n m = cond (eqb (m % n) 0) line_feed comma

-- The first fault of a text that has so many fields to come. A field's own 12 or 13; then 12, where another byte ends
-- it than has to, or the text does: a comma for a line feed begins a surplus field, and a line feed for a comma, or the
-- text's end, is where a field, a row or the last line feed is missing. At last 12, where anything follows the last
-- line feed.
unfoldable pub text_fault : ℕ → ℕ → List ℕ → ℕ
text_fault n zero s = cond (eqb (length s) 0) 0 12
text_fault n (suc m) s =
    first (field_number (field_of (field s))) (cond (eqb (ending s) (separator n m)) (text_fault n m (rest s)) 12)

-- the fields' values
unfoldable pub text_values : ℕ → List ℕ → List Float
text_values zero s = []
text_values (suc m) s = field_value (field_of (field s)) ∷ text_values m (rest s)

-- ---- a call

-- 2: n outside 1–12, or a slice not of n·n; then the text's first fault
unfoldable pub import_fault : ℕ → List Float → List ℕ → ℕ
import_fault n entries s = first (shape_fault n (n * n) entries) (text_fault n (n * n) s)

-- what it leaves in the slice: the values by rows, or where it refuses what stood there
unfoldable pub imported : ℕ → List Float → List ℕ → List Float
imported n entries s = cond (eqb (import_fault n entries s) 0) (text_values (n * n) s) entries
