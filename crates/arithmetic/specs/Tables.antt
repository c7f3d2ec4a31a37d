-- Slices as functions of an index, tables by full rows, and the part of a slice that starts at a place.
use Rattle.std.specs.Prelude.{◌≡◌, ℕ, ◌+◌, ◌-◌, ◌*◌, ◌/◌, ◌%◌, ◌<◌, cond, List, length, take, drop, nat_lt, slice_index_or, slice_range, Float}
use Rattle.std.specs.Float.{nan}
use Rattle.std.specs.Borrow.{MutBor}
use denote.Triple.Both.{Both}

-- numbers by one index, and by two
abbrev pub Vector : Type 0
Vector = ℕ → Float

abbrev pub Table : Type 0
Table = ℕ → ℕ → Float

-- what stands at k
abbrev pub at : List Float → ℕ → Float
at l k = slice_index_or l k nan

-- entry i, j of a table that stands by full rows of n
abbrev pub grid : ℕ → List Float → ℕ → ℕ → Float
grid n g i j = at g (i * n + j)

-- the part `&l[s..]`
abbrev pub from : {A : Type 0} → ℕ → List A → List A
from s l = take (length l - s) (drop s l)

-- the part `&l[s..e]`
abbrev pub part : {A : Type 0} → ℕ → ℕ → List A → List A
part s e l = slice_range l s e

-- the first p places are F 0, .., F (p - 1)
pub record Filled (F : Vector) (p : ℕ) (g : List Float) : Type 0 where
  pub each : (k : ℕ) → k < p → at g k ≡ F k

-- the first n places as new says, the others as they were
unfoldable pub up_to : ℕ → Vector → Vector → ℕ → Float
up_to n new old k = cond (nat_lt k n) (new k) (old k)

-- each of the first n places of a slice has taken its f
abbrev pub Taken : (Float → Float) → ℕ → Both (MutBor (List Float)) (MutBor (List Float)) → Type 0
Taken f n a =
    Filled (up_to n (λ k. f (at a.entry.now k)) (at a.entry.now)) (length a.entry.now) a.exit.now

-- a table of rows of n, by its flat places
unfoldable pub flat : ℕ → Table → ℕ → Float
flat n L k = L (k / n) (k % n)
