-- Counting what passes, what a count of none or of all shows, and stale cells counted by their marks: those that aren't 1, less those on
-- a diagonal that has no cells.
use mathlib.Core.Path.{◌≡◌, refl, sym, ap, ◌∙◌}
use mathlib.Core.Bool.{Bool, true, false, not, ◌&&◌, cond}
use mathlib.Core.List.{List}
use Prim.Native.Nat.{ℕ, zero, suc, ◌+◌, ◌*◌, ◌/◌, ◌%◌, ◌<◌, ◌≤◌}
use native.Mathlib.Nat.{add-zero, le_antisymm, ne_of_lt, ne_of_gt}
use native.Mathlib.Numerals.{add-one}
use native.Mathlib.Omega.{arith}
use borrow.Author.Tests.{eq-eqb, ne_eqb}
use lib.Dec.{eqb}
use lib.ListN.{length, get_or, take}
use lib.Seq.{get_or-take, length-take-le}
use Rattle.arithmetic.proofs.TableLaws.{by_place, cell_row, cell-column}
use Rattle.mixture.specs.Lists.{how_many, how_many_pairs}
use Rattle.mixture.specs.Steps.Refills.{row_count, table_count, unmarked}
use Rattle.mixture.proofs.ListLaws.{how_many-le, how_many-same, how_many-rows, how_many_pairs-same}

-- ---- counting

module _ (p : ℕ → Bool) where
  pub many-none : 0 ≡ how_many 0 p
  unfolding how_many
  many-none = refl

  module _ (n : ℕ) {k : ℕ} (so : k ≡ how_many n p) where
    pub many_more : {r : ℕ} → p n ≡ true → r ≡ k + 1 → r ≡ how_many (n + 1) p
    unfolding how_many
    many_more t e = e ∙ rw (so, add-one n, t)

    pub many_skip : {r : ℕ} → p n ≡ false → r ≡ k → r ≡ how_many (n + 1) p
    unfolding how_many
    many_skip t e = e ∙ rw (so, add-one n, t, add-zero)

    pub many-few : k ≤ n
    many-few = rw so (how_many-le n p)

pub is-unmarked : (m : ℕ) → (m ≡ 1 → ⊥) → not (eqb m 1) ≡ true
is-unmarked m h = rw (ne_eqb m 1 h) refl

pub is-marked : (m : ℕ) → m ≡ 1 → not (eqb m 1) ≡ false
is-marked m h = rw (eq-eqb m 1 h) refl

-- ---- what a number that passes adds

one_of : (n i : ℕ) (p : ℕ → Bool) → i < n → cond (p i) 1 0 ≤ how_many n p
unfolding how_many
one_of zero i p h = absurd (omega arith)
one_of (suc n) i p h = by_place i n (λ b. omega (arith, one_of n i p b)) (λ e. rw e (omega arith)) (λ b. absurd (omega arith))

is_none : (b : Bool) → cond b 1 0 ≤ 0 → b ≡ false
is_none true h = absurd (omega arith)
is_none false h = refl

pub none_of : (n : ℕ) (p : ℕ → Bool) → how_many n p ≡ 0 → (c : ℕ) → c < n → p c ≡ false
none_of n p e c h = is_none (p c) (omega (arith, one_of n c p h))

-- ---- where all pass

flag-le : (b : Bool) → cond b 1 0 ≤ 1
flag-le true = omega arith
flag-le false = omega arith

is_one : (b : Bool) → 1 ≤ cond b 1 0 → b ≡ true
is_one true h = refl
is_one false h = absurd (omega arith)

-- as many pass as there are: each does
pub all_of : (n : ℕ) (p : ℕ → Bool) → how_many n p ≡ n → (c : ℕ) → c < n → p c ≡ true
unfolding how_many
all_of zero p e c h = absurd (omega arith)
all_of (suc n) p e c h =
    by_place c n
    (λ b. all_of n p (le_antisymm (how_many-le n p) (omega (arith, flag-le (p n)))) c b)
    (λ q. rw (← q) (is_one (p n) (omega (arith, how_many-le n p))))
    (λ b. absurd (omega arith))

pub many-all : (n : ℕ) (p : ℕ → Bool) → ((k : ℕ) → k < n → p k ≡ true) → how_many n p ≡ n
unfolding how_many
many-all zero p h = refl
many-all (suc n) p h = rw (many-all n p (λ k b. h k (omega arith)), h n (omega arith)) (omega arith)

-- ---- the diagonal, and what is off it

-- of n numbers those other than i, and i
many-apart : (n i : ℕ) (p : ℕ → Bool) → i < n → how_many n p ≡ how_many n (λ j. not (eqb i j) && p j) + cond (p i) 1 0
unfolding how_many
many-apart zero i p h = absurd (omega arith)
many-apart (suc n) i p h =
    by_place i n
    (λ b. rw (ne_eqb i n (ne_of_lt b)) (omega (arith, many-apart n i p b)))
    (λ e. rw (← e, eq-eqb n n refl, how_many-same n (λ j. not (eqb n j) && p j) p (λ j b. rw (ne_eqb n j (ne_of_gt b)))) (omega arith))
    (λ b. absurd (omega arith))

pairs-apart : (m n : ℕ) (p : ℕ → ℕ → Bool) → m ≤ n → how_many_pairs m n p ≡ how_many_pairs m n (λ i j. not (eqb i j) && p i j) + how_many m (λ i. p i i)
unfolding how_many how_many_pairs
pairs-apart zero n p h = refl
pairs-apart (suc m) n p h = omega (arith, pairs-apart m n p (omega arith), many-apart n m (p m) h)

-- by their places
places-apart : (w : ℕ) (p : ℕ → Bool) → how_many (w * w) p ≡ how_many (w * w) (λ c. not (eqb (c / w) (c % w)) && p c) + how_many w (λ i. p (i * w + i))
places-apart w p =
    how_many-rows w w p
    ∙ (pairs-apart w w (λ i j. p (i * w + j)) (omega arith)
    ∙ ap (λ (k : ℕ). k + how_many w (λ i. p (i * w + i)))
    (sym (how_many-rows w w (λ c. not (eqb (c / w) (c % w)) && p c) ∙ how_many_pairs-same w w _ _ (λ i j a b. rw (cell_row w i j b, cell-column w i j b)))))

-- ---- marks and stale cells

-- those of the first w marks
taken : (marks : List ℕ) {u w n : ℕ} → u ≡ w → w ≤ length marks → n ≡ how_many (length (take u marks)) (unmarked (take u marks)) → n ≡ how_many w (unmarked marks)
taken marks {w = w} e h so =
    so ∙ rw (e, length-take-le w marks h) (how_many-same w _ _ (λ c b. ap (λ (m : ℕ). not (eqb m 1)) (get_or-take w marks c 0 b)))

-- a row's stale cells: where the diagonal has cells each mark other than 1, else each off the diagonal
module _ (marks : List ℕ) {d : Bool} {v w i n : ℕ} (e : v ≡ w) (h : i < w) (long : w ≤ length marks) (so : n ≡ how_many (length (take v marks)) (unmarked (take v marks))) where
  pub row_all : d ≡ true → n ≡ row_count d w marks i
  row_all t = taken marks e long so ∙ rw t

  row_apart : d ≡ false → n ≡ row_count d w marks i + cond (unmarked marks i) 1 0
  row_apart f = taken marks e long so ∙ (many-apart w i (unmarked marks) h ∙ rw f)

  pub row_but : d ≡ false → get_or marks i 0 ≡ 1 → n ≡ row_count d w marks i
  row_but f t = row_apart f ∙ rw (is-marked (get_or marks i 0) t, add-zero)

  pub row-less : d ≡ false → (get_or marks i 0 ≡ 1 → ⊥) → n ≡ row_count d w marks i + 1
  row-less f t = row_apart f ∙ rw (is-unmarked (get_or marks i 0) t)

-- a table's
module _ (marks : List ℕ) {d : Bool} {v w n : ℕ} (e : v ≡ w) (long : w * w ≤ length marks) (so : n ≡ how_many (length (take (v * v) marks)) (unmarked (take (v * v) marks))) where
  pub table_all : d ≡ true → n ≡ table_count d w marks
  table_all t = taken marks (rw e) long so ∙ rw t

  pub table-apart : {m : ℕ} → d ≡ false → m ≡ how_many v (λ i. unmarked marks (i * v + i)) → n ≡ table_count d w marks + m
  table-apart {m} f q = taken marks (rw e) long so ∙ (places-apart w (unmarked marks) ∙ rw (f, q, e))
