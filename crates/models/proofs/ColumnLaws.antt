-- Sums down columns that grow row by row, terms kept side by side before their fold, and equal entries.
use mathlib.Core.Path.{◌≡◌, refl, sym, ap, ◌∙◌}
use mathlib.Core.List.{List}
use mathlib.Core.Logic.{inl, inr}
use Prim.Native.Nat.{ℕ, ◌+◌, ◌*◌, ◌<◌, ◌≤◌}
use native.Mathlib.Nat.{le_antisymm, ne_of_lt, ne_of_gt}
use native.Mathlib.Omega.{arith}
use lib.Dec.{eqb}
use borrow.Author.Tests.{eq-eqb, ne_eqb, eqb-false}
use lib.ListN.{length, set, take, replicate, get_or-replicate}
use lib.Seq.{get_or-set_same, get_or-set_other, get_or-take, length-take-le}
use lib.Ieee.{Float, nan, binary64, of_bits}
use Rattle.arithmetic.specs.Floats.{◌⊕◌, ◌⊗◌, +0, one}
use Rattle.arithmetic.specs.Sums.{fold, sum, total}
use Rattle.arithmetic.specs.Tables.{at, grid, from, Filled, up_to}
use Rattle.arithmetic.proofs.SumLaws.{sum_more, sum_same}
use Rattle.arithmetic.proofs.TableLaws.{upto_below, from_at, filled_as, by_place, Filling, filling_done}
use Rattle.arithmetic.proofs.Tests.{either}
use Rattle.models.specs.Columns.{unit_at, unit_diagonal, column_sum}
use Rattle.models.specs.Steps.Terms.{with_own}

-- an array of zeros
pub zeros : (m : ℕ) → Filled (λ k. +0) m (replicate m (of_bits binary64 0))
unfolding of_bits
zeros m = record { each = λ k h. get_or-replicate m k +0 nan h }

-- a loop over the rows i that keeps the sums of the first n columns, of the terms F k j of row k and column j, in a list of m
pub record Columns (F : ℕ → ℕ → Float) (n m i : ℕ) (s : List Float) : Type 0 where
  pub within : i ≤ n
  pub room : n ≤ m
  pub long : length s ≡ m
  pub sums : Filled (λ j. sum i (λ k. F k j)) n s

module _ {F : ℕ → ℕ → Float} {n m : ℕ} where
  pub columns-room : {i : ℕ} {s : List Float} → Columns F n m i s → n ≤ length s
  columns-room all = omega (arith, all.room, all.long)

  -- zeros at first
  pub columns-none : {s : List Float} → n ≤ m → length s ≡ m → Filled (λ _. +0) n s → Columns F n m 0 s
  unfolding sum fold
  columns-none h l zeros = record { within = omega arith; room = h; long = l; sums = record { each = zeros.each } }

  pub columns-more : (new : ℕ → Float) {i : ℕ} {s s' : List Float} → i < n → ((j : ℕ) → j < n → new j ≡ F i j) → Columns F n m i s →
      Filled (up_to n (λ j. at s j ⊕ new j) (at s)) (length s) s' → length s' ≡ length s → Columns F n m (i + 1) s'
  columns-more new {i} {s} h e before after same = record {
    within = omega arith;
    room = before.room;
    long = same ∙ before.long;
    sums = record {
      each = λ j b.
          after.each j (omega (arith, before.room, before.long)) ∙ upto_below n (λ j. at s j ⊕ new j) (at s) j b
          ∙ sum_more (λ k. F k j) i (before.sums.each j b) (e j b);
    };
  }

  pub columns-done : {i : ℕ} {s : List Float} → n ≤ i → Columns F n m i s → Filled (λ j. sum n (λ k. F k j)) n s
  columns-done h all = rw (le_antisymm all.within h) at all.sums

-- ---- terms kept side by side, then folded

-- a store at i, where F and G may differ
pub filled_put : {F G : ℕ → Float} {g : List Float} (n i : ℕ) {v : Float} → i < length g → ((k : ℕ) → k < n → (i ≡ k → ⊥) → F k ≡ G k) → v ≡ G i → Filled F n g → Filled G n (set g i v)
filled_put {F} {G} {g} n i {v} h e w all = record {
  each = λ k b.
      by_place k i
      (λ c. get_or-set_other g i k v nan (ne_of_lt c) ∙ all.each k b ∙ e k b (λ q. absurd (omega arith)))
      (λ q. rw (← q) (get_or-set_same g i v nan h ∙ w))
      (λ d. get_or-set_other g i k v nan (ne_of_gt d) ∙ all.each k b ∙ e k b (λ q. absurd (omega arith)));
}

-- the sum of an array's first n places
pub total-sum : (n : ℕ) (F : ℕ → Float) (g : List Float) {r : Float} → n ≤ length g → Filled F n g → r ≡ total (take n g) → r ≡ sum n F
unfolding total
total-sum n F g h all e =
    e ∙ (ap (λ (m : ℕ). sum m (at (take n g))) (length-take-le n g h) ∙ sum_same n _ _ (λ k b. get_or-take n g k nan b ∙ all.each k b))

module _ {F : ℕ → Float} {n m p : ℕ} {g : List Float} (terms : Filling F n m p g) where
  module _ (done : n ≤ p) where
    pub terms_sum : {r : Float} → r ≡ total (take n g) → r ≡ sum n F
    terms_sum e = total-sum n F g (omega (arith, terms.room, terms.long)) (filling_done done terms) e

pub unit_on : (i : ℕ) (row : ℕ → Float) → unit_at i row i ≡ one
unfolding unit_at
unit_on i row = rw (eq-eqb i i refl)

pub unit-off : (i k : ℕ) (row : ℕ → Float) → (i ≡ k → ⊥) → unit_at i row k ≡ row k
unfolding unit_at
unit-off i k row h = rw (ne_eqb i k h)

-- two ways to rewrite a place that agree there
pub upto_either : (n k : ℕ) (old new other : ℕ → Float) → new k ≡ other k → up_to n new old k ≡ up_to n other old k
unfolding up_to
upto_either n k old new other e = rw e

-- a whole row added by F, then place i put right, where alone G may differ
pub row-added : (n i : ℕ) (F G : ℕ → Float) (s s' : List Float) {v : Float} → i < n → n ≤ length s → ((k : ℕ) → (i ≡ k → ⊥) → F k ≡ G k) → v ≡ G i →
    Filled (up_to n F (at s)) (length s) s' → length s' ≡ length s → Filled (up_to n G (at s)) (length s) (set s' i v)
row-added n i F G s s' b h off own all same =
    filled_put (length s) i (omega arith) (λ k c d. upto_either n k (at s) F G (off k d)) (own ∙ sym (upto_below n G (at s) i b)) all

-- terms of a row that counts as 1 at i
pub unit_own : (n i : ℕ) (w : Float) (row : ℕ → Float) (s : List Float) {own : Float} {p : ℕ} {s' : List Float} → own ≡ w ⊗ one →
    Filled (up_to n (λ j. at s j ⊕ with_own i own (λ j. w ⊗ row j) j) (at s)) p s' → Filled (up_to n (λ j. at s j ⊕ w ⊗ unit_at i row j) (at s)) p s'
unfolding with_own unit_at
unit_own n i w row s o all = filled_as (λ k b. upto_either n k (at s) _ _ (ap (λ (z : Float). at s k ⊕ z) (elim (either (eqb i k)) [ inl e ↦ rw (e, o) | inr e ↦ rw e ]))) all

-- the row lent as a part gives the table's entry
pub unit_row : (n : ℕ) (l : List Float) (i j : ℕ) → i * n + n ≤ length l → j < n → unit_at i (at (from (i * n) l)) j ≡ unit_diagonal (grid n l) i j
unfolding unit_at unit_diagonal
unit_row n l i j h b = rw (from_at l (i * n) j (omega arith))

-- tables equal off the diagonal are equal with 1 on it
pub unit-same : (n : ℕ) (E F : ℕ → ℕ → Float) → ((i j : ℕ) → i < n → j < n → (i ≡ j → ⊥) → E i j ≡ F i j) → (i j : ℕ) → i < n → j < n → unit_diagonal E i j ≡ unit_diagonal F i j
unfolding unit_diagonal unit_at
unit-same n E F h i j b c = elim (either (eqb i j)) [ inl e ↦ rw e | inr e ↦ rw (h i j b c (eqb-false i j e)) ]

pub column-same : (n : ℕ) (E F : ℕ → ℕ → Float) (v w : ℕ → Float) (j : ℕ) → ((k : ℕ) → k < n → E k j ≡ F k j) → ((k : ℕ) → k < n → v k ≡ w k) → column_sum n E v j ≡ column_sum n F w j
unfolding column_sum
column-same n E F v w j e h = sum_same n _ _ (λ k b. rw (h k b, e k b))
