-- A query's inner steps: the stale cells of some places worked out, through parts that start at a row.
use Rattle.std.specs.Prelude.{◌≡◌, Bool, true, false, not, ◌&&◌, ◌||◌, List, ℕ, ◌+◌, ◌*◌, ◌-◌, ◌/◌, ◌%◌, ◌<◌, ◌≤◌, ltb, eqb, length, get_or, Float}
use Rattle.arithmetic.specs.Exponential.{exp_of}
use Rattle.arithmetic.specs.Parameters.{td_at}
use Rattle.std.specs.Borrow.{MutBor}
use denote.Triple.Both.{Both}
use Rattle.arithmetic.specs.Tables.{Table, Vector, at, grid}
use Rattle.models.specs.declared.answers.Quantity.{Quantity}
use Rattle.models.specs.Faults.{index_fault}
use Rattle.models.specs.Values.{start, taus, group_as}
use Rattle.mixture.specs.declared.head.Head.{Head}
use Rattle.models.specs.declared.model.Model.{Model}
use Rattle.mixture.specs.declared.query.Worked.{Worked}
use Rattle.mixture.specs.Lists.{written, how_many}
use Rattle.mixture.specs.Holdings.{held}
use Rattle.mixture.specs.Cells.{width}
use Rattle.models.specs.Limits.{most_components, most_groups, most_places}
use Rattle.models.specs.Model.{has_groups}
use Rattle.mixture.specs.Memory.{Memory, least_values, least_cells, least_marks}
use Rattle.mixture.specs.Layout.{data_in}
use Rattle.mixture.specs.Calls.{value_by, stale_at, worked}

-- i, j is a cell, on the diagonal only where that has cells, and its mark makes it stale
abbrev pub stale_cell : Bool → ℕ → ℕ → ℕ → Bool
stale_cell diagonal mark i j = (diagonal || not (eqb i j)) && not (eqb mark 1)

-- the mark at c is other than 1
abbrev pub unmarked : List ℕ → ℕ → Bool
unmarked marks c = not (eqb (get_or marks c 0) 1)

-- of the first n places those that pass are worked out and marked fresh, and r is their number
pub record Refilled (n : ℕ) (p : ℕ → Bool) (f : Vector) (cells : List Float) (marks : List ℕ) (cells' : List Float) (marks' : List ℕ) (r : ℕ) : Type 0 where
  pub worked : cells' ≡ written (λ c. ltb c n && p c) f cells
  pub marked : marks' ≡ written (λ c. ltb c n && p c) (λ c. 1) marks
  pub counted : r ≡ how_many n p

-- f of each of the first n places that pass stands in l, one after the other, and r is their number
pub record Gathered (n : ℕ) (p : ℕ → Bool) (f : Vector) (l : List Float) (r : ℕ) : Type 0 where
  pub counted : r ≡ how_many n p
  pub each : (j : ℕ) → j < n → p j ≡ true → at l (how_many j p) ≡ f j

-- of the first n rows of a table by rows of w, but for the last: their entries on the diagonal and the last row's have changed places, and every other place is kept
pub record Swapped (w n : ℕ) (l l' : List Float) : Type 0 where
  pub laid : (i : ℕ) → i < n → grid w l' i i ≡ grid w l (w - 1) i
  pub lifted : (i : ℕ) → i < n → grid w l' (w - 1) i ≡ grid w l i i
  pub kept : (c : ℕ) → ((i : ℕ) → i < n → (c ≡ i * w + i → ⊥) × (c ≡ (w - 1) * w + i → ⊥)) → at l' c ≡ at l c

-- each entry off the diagonal has the exp of what it held
pub record OffDiagonalTaken (w : ℕ) (l l' : List Float) : Type 0 where
  pub each : (i j : ℕ) → i < w → j < w → (i ≡ j → ⊥) → grid w l' i j ≡ exp_of (grid w l i j)

-- ---- a row, through parts that start at it, and a table by w rows

-- entry i, j of a table of exponentials is the exp of A i j: these are its places
abbrev pub cell_of : ℕ → Table → Vector
cell_of w A c = exp_of (A (c / w) (c % w))

-- its stale cells, and their number
abbrev pub stale_in : Bool → List ℕ → ℕ → ℕ → Bool
stale_in d marks i j = stale_cell d (get_or marks j 0) i j

abbrev pub stale_of : Bool → ℕ → List ℕ → ℕ → Bool
stale_of d w marks c = stale_cell d (get_or marks c 0) (c / w) (c % w)

abbrev pub row_count : Bool → ℕ → List ℕ → ℕ → ℕ
row_count d w marks i = how_many w (stale_in d marks i)

abbrev pub table_count : Bool → ℕ → List ℕ → ℕ
table_count d w marks = how_many (w * w) (stale_of d w marks)

-- row i, one of w, and slices of so many places
pub record RowFits (w i : ℕ) (out : List Float) (marks : List ℕ) : Type 0 where
  pub inside : i < w
  pub few : w ≤ most_groups
  pub room : w ≤ length out
  pub marked : w ≤ length marks

-- slices of w·w places
pub record TableFits (w : ℕ) (out : List Float) (marks : List ℕ) : Type 0 where
  pub few : w ≤ most_groups
  pub room : w * w ≤ length out
  pub marked : w * w ≤ length marks

-- a slice of w·w places, for one row at least
pub record SquareFits (w : ℕ) (a : List Float) : Type 0 where
  pub some : 1 ≤ w
  pub few : w ≤ most_groups
  pub room : w * w ≤ length a

-- all cells of a few rows are stale, r of them, none on the diagonal
pub record AllStale (d : Bool) (w : ℕ) (marks : List ℕ) (r : ℕ) : Type 0 where
  pub some : 1 ≤ w
  pub few : w ≤ most_components
  pub apart : d ≡ false
  pub whole : r ≡ (w - 1) * w
  pub counted : r ≡ table_count d w marks

-- ---- of slices before and after a call

-- floats and marks that are written
abbrev Floats : Type 0
Floats = Both (MutBor (List Float)) (MutBor (List Float))

abbrev Marks : Type 0
Marks = Both (MutBor (List ℕ)) (MutBor (List ℕ))

abbrev pub Refills : ℕ → (ℕ → Bool) → Vector → Floats → Marks → ℕ → Type 0
Refills n p f cells marks r = Refilled n p f cells.entry.now marks.entry.now cells.exit.now marks.exit.now r

-- row i by f, and w rows
abbrev pub RowRefilled : Bool → ℕ → Vector → ℕ → Floats → Marks → ℕ → Type 0
RowRefilled d w f i cells marks r = Refills w (stale_in d marks.entry.now i) f cells marks r

abbrev pub TableRefilled : Bool → ℕ → Vector → Floats → Marks → ℕ → Type 0
TableRefilled d w f cells marks r = Refills (w * w) (stale_of d w marks.entry.now) f cells marks r

-- of w places those that pass take f: what a call that goes by a place and by how many pass before it gives
abbrev pub Takes : ℕ → (ℕ → Bool) → (ℕ → ℕ → Float → Type 0) → Vector → Type 0
Takes w p gives f = (j : ℕ) (r : Float) → j < w → p j ≡ true → gives j (how_many j p) r → r ≡ f j

-- the cells of a model with w rows, worked out by E, and the value f of the table that they make with the others
pub record Solved (k : Model) (w : ℕ) (E : Table) (f : Table → Float) (cells : List Float) (marks : List ℕ) (cells' : List Float) (marks' : List ℕ) (r : Worked) : Type 0 where
  pub refilled : Refilled (w * w) (stale_of (has_groups k) w marks) (λ c. E (c / w) (c % w)) cells marks cells' marks' r.count
  pub solved : r.value ≡ f (grid w cells')

-- the same, of slices before and after a call
abbrev pub Solves : Model → ℕ → Table → (Table → Float) → Floats → Marks → Worked → Type 0
Solves k w E f cells marks r = Solved k w E f cells.entry.now marks.entry.now cells.exit.now marks.exit.now r

-- τ and the interactions of groups at T, of values v
abbrev pub taus_at : ℕ → List Float → Float → Table
taus_at n v T i j = td_at (taus n v i j) T

abbrev pub groups_at : ℕ → List Float → Float → Table
groups_at ng v T m k = td_at (group_as ng v m k) T

-- what a query that passes has shown: few components, an index among them, and slices of the least lengths
pub record Asked (n : ℕ) (q : Quantity) (v c : List Float) (m : List ℕ) : Type 0 where
  pub few : n ≤ most_components
  pub index : index_fault n q ≡ 0
  pub values : least_values ≤ length v
  pub cells : least_cells ≤ length c
  pub marks : least_marks ≤ length m

-- what UNIFAC's head has shown where it is in range
pub record Ranged (n ng : ℕ) (lens groups : List ℕ) : Type 0 where
  pub some : 1 ≤ n
  pub few : n ≤ most_components
  pub some_groups : 1 ≤ ng
  pub few_groups : ng ≤ most_groups
  pub places : start lens n ≤ most_places
  pub below : (p : ℕ) → p < start lens n → get_or groups p 0 < ng

-- what an accepted query leaves of cells and marks, its value and its count
pub record Answered (m : Memory) (h : Head) (q : Quantity) (cells' : List Float) (marks' : List ℕ) (r : Worked) : Type 0 where
  pub cells : cells' ≡ (worked m (held (data_in m h)) h.t).cells
  pub marks : marks' ≡ (worked m (held (data_in m h)) h.t).marks
  pub value : r.value ≡ value_by (held (data_in m h)) h.t (grid (width (held (data_in m h))) cells') (at h.x) q
  pub count : r.count ≡ how_many (width (held (data_in m h)) * width (held (data_in m h))) (stale_at m (held (data_in m h)))
