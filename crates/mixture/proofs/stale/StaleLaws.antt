-- Marks written 0 place after place and row after row, as a list written at the places that pass.
use mathlib.Core.Path.{◌≡◌, refl, sym, ap, ◌∙◌}
use mathlib.Core.Bool.{Bool, true, false, not, ◌&&◌, ◌||◌, or-false, or-true, and-false}
use mathlib.Core.List.{List}
use Prim.Native.Nat.{ℕ, zero, suc, ◌+◌, ◌*◌, ◌/◌, ◌%◌, ◌<◌, ◌≤◌}
use mathlib.Core.Logic.{inl, inr}
use native.Mathlib.Nat.{zero-add, suc-add, add-suc, div-add-mod', mod-lt}
use native.Mathlib.Omega.{arith}
use lib.Dec.{leb, ltb, eqb, leb-suc-suc}
use lib.ListN.{set}
use borrow.Author.Tests.{lt-ltb, le-ltb, le-leb, lt-leb, eq-eqb, ne_eqb}
use Rattle.arithmetic.proofs.Tests.{le-or}
use Rattle.arithmetic.proofs.TableLaws.{by_place, row-end}
use Rattle.mixture.specs.declared.stale.Block.{Block}
use Rattle.mixture.specs.Lists.{written}
use Rattle.mixture.specs.Steps.Blocks.{in_row, in_block}
use Rattle.mixture.proofs.ListLaws.{written_same, written_none, written-set, written_both}
use Rattle.mixture.proofs.PlaceLaws.{eq_cases}

-- ---- places from a start on

same-leb : (a b c : ℕ) → leb (c + a) (c + b) ≡ leb a b
same-leb a b zero = rw (zero-add a, zero-add b)
same-leb a b (suc c) = rw (suc-add c a, suc-add c b, leb-suc-suc (c + a) (c + b)) (same-leb a b c)

same-ltb : (a b c : ℕ) → ltb (c + a) (c + b) ≡ ltb a b
same-ltb a b c = rw (← add-suc c a) (same-leb (suc a) b c)

same-eqb : (a b c : ℕ) → eqb (c + a) (c + b) ≡ eqb b a
same-eqb a b c =
    elim (eq_cases b a) [
      | inl e ↦ eq-eqb (c + a) (c + b) (omega arith) ∙ sym (eq-eqb b a e)
      | inr n ↦ ne_eqb (c + a) (c + b) (λ (e : c + a ≡ c + b). n (omega arith)) ∙ sym (ne_eqb b a n)
    ]

-- ---- a row

-- where a place is a cell
module _ (diagonal : Bool) (i j : ℕ) where
  pub on_diagonal : diagonal ≡ true → (diagonal || not (eqb i j)) ≡ true
  on_diagonal t = rw t

  pub off_diagonal : (i ≡ j → ⊥) → (diagonal || not (eqb i j)) ≡ true
  off_diagonal n = rw (ne_eqb i j n) (or-true diagonal)

  pub no_cell : diagonal ≡ false → i ≡ j → (diagonal || not (eqb i j)) ≡ false
  no_cell f e = rw (f, eq-eqb i j e)

module _ (start left j : ℕ) (diagonal : Bool) (i : ℕ) where
  row_out : (c : ℕ) → (eqb c (start + j) ≡ false) → (ltb c (start + (j + 1)) ≡ ltb c (start + j))
      → in_row start left (j + 1) diagonal i c ≡ (in_row start left j diagonal i c || eqb c (start + j))
  row_out c e l = rw (l, e) (sym (or-false (in_row start left j diagonal i c)))

  -- the place start + j, which is a cell
  row_more : left ≤ j → (diagonal || not (eqb i j)) ≡ true → (c : ℕ) → in_row start left (j + 1) diagonal i c ≡ (in_row start left j diagonal i c || eqb c (start + j))
  row_more h t c =
      by_place c (start + j)
      (λ (b : c < start + j). row_out c (ne_eqb c (start + j) (λ (e : c ≡ start + j). omega arith)) (lt-ltb c (start + (j + 1)) (omega arith) ∙ sym (lt-ltb _ _ b)))
      (λ (e : start + j ≡ c).
      rw (← e)
      (rw (le-leb (start + left) (start + j) (omega arith), lt-ltb (start + j) (start + (j + 1)) (omega arith), same-eqb j i start, t, eq-eqb (start + j) (start + j) refl)
      (sym (or-true (true && ltb (start + j) (start + j) && true)))))
      (λ (b : start + j < c). row_out c (ne_eqb c (start + j) (λ (e : c ≡ start + j). omega arith)) (le-ltb c (start + (j + 1)) (omega arith) ∙ sym (le-ltb c (start + j) (omega arith))))

  -- which is none
  row-skips : (diagonal || not (eqb i j)) ≡ false → (c : ℕ) → in_row start left j diagonal i c ≡ in_row start left (j + 1) diagonal i c
  row-skips f c =
      by_place c (start + j)
      (λ (b : c < start + j). rw (lt-ltb _ _ b, lt-ltb c (start + (j + 1)) (omega arith)))
      (λ (e : start + j ≡ c).
      rw (← e)
      (rw (same-eqb j i start, f)
      (and-false (leb (start + left) (start + j) && ltb (start + j) (start + j)) ∙ sym (and-false (leb (start + left) (start + j) && ltb (start + j) (start + (j + 1)))))))
      (λ (b : start + j < c). rw (le-ltb c (start + j) (omega arith), le-ltb c (start + (j + 1)) (omega arith)))

  -- a turn writes the place, or skips it
  module _ (l : List ℕ) {m r : List ℕ} (so : m ≡ written (in_row start left j diagonal i) (λ c. 0) l) where
    pub row_write : left ≤ j → (diagonal || not (eqb i j)) ≡ true → r ≡ set m (start + j) 0 → r ≡ written (in_row start left (j + 1) diagonal i) (λ c. 0) l
    row_write h t e = e ∙ rw so (written-set _ _ (λ c. 0) l (start + j) (row_more h t))

    pub row_keep : (diagonal || not (eqb i j)) ≡ false → r ≡ m → r ≡ written (in_row start left (j + 1) diagonal i) (λ c. 0) l
    row_keep f e = e ∙ (so ∙ written_same _ _ (λ c. 0) l (row-skips f))

pub row-none : (start left right : ℕ) (diagonal : Bool) (i : ℕ) → right ≤ left → (c : ℕ) → in_row start left right diagonal i c ≡ false
row-none start left right diagonal i h c =
    elim (le-or (start + left) c) [
      | inl b ↦ rw (le-ltb c (start + right) (omega arith), and-false (leb (start + left) c))
      | inr b ↦ rw (lt-leb _ _ b)
    ]

-- ---- rows of w

-- a column of the block, in row k
abbrev in_columns : Bool → ℕ → ℕ → ℕ → ℕ → Bool
in_columns diagonal left right k r = leb left r && ltb r right && (diagonal || not (eqb k r))

module _ (w : ℕ) (i left right : ℕ) (cols : right ≤ w) where
  -- the place of row k and column r, and row i
  row_at : (diagonal : Bool) (k r : ℕ) → r < w → in_row (i * w) left right diagonal i (k * w + r) ≡ (eqb k i && in_columns diagonal left right k r)
  row_at diagonal k r inside =
      by_place k i
      (λ (b : k < i). rw (lt-leb (i * w + left) (k * w + r) (omega (arith, row-end i w k b)), ne_eqb k i (λ (e : k ≡ i). omega arith)))
      (λ (e : i ≡ k). rw (← e, eq-eqb i i refl, same-leb left r (i * w), same-ltb r right (i * w), same-eqb r i (i * w)))
      (λ (b : i < k).
      rw (le-ltb (k * w + r) (i * w + right) (omega (arith, row-end k w i b)), ne_eqb k i (λ (e : k ≡ i). omega arith), and-false (leb (i * w + left) (k * w + r))))

  row_is : (diagonal : Bool) (c : ℕ) → 1 ≤ w → in_row (i * w) left right diagonal i c ≡ (eqb (c / w) i && in_columns diagonal left right (c / w) (c % w))
  row_is diagonal c some = ap (in_row (i * w) left right diagonal i) (sym (div-add-mod' c w)) ∙ row_at diagonal (c / w) (c % w) (mod-lt c some)

-- ---- a block

-- rows from top to below i
abbrev pub to_row : ℕ → Bool → ℕ → ℕ → ℕ → ℕ → ℕ → Bool
to_row w diagonal top left right i c = leb top (c / w) && ltb (c / w) i && in_columns diagonal left right (c / w) (c % w)

module _ (w : ℕ) (diagonal : Bool) (top left right : ℕ) where
  block_none : (c : ℕ) → to_row w diagonal top left right top c ≡ false
  block_none c =
      elim (le-or top (c / w)) [
        | inl h ↦ rw (le-ltb (c / w) top h, and-false (leb top (c / w)))
        | inr h ↦ rw (lt-leb top (c / w) h)
      ]

  block_row : (i : ℕ) → 1 ≤ w → right ≤ w → top ≤ i → (c : ℕ)
      → to_row w diagonal top left right (i + 1) c ≡ (to_row w diagonal top left right i c || in_row (i * w) left right diagonal i c)
  block_row i some cols h c =
      rw (row_is w i left right cols diagonal c some)
      (by_place (c / w) i
      (λ (l : c / w < i). rw (lt-ltb (c / w) (i + 1) (omega arith), lt-ltb (c / w) i l, ne_eqb (c / w) i (λ (e : c / w ≡ i). omega arith)) (sym (or-false _)))
      (λ (e : i ≡ c / w).
      rw (le-leb top (c / w) (omega arith), lt-ltb (c / w) (i + 1) (omega arith), le-ltb (c / w) i (omega arith), eq-eqb (c / w) i (sym e)))
      (λ (l : i < c / w).
      rw (le-ltb (c / w) (i + 1) (omega arith), le-ltb (c / w) i (omega arith), ne_eqb (c / w) i (λ (e : c / w ≡ i). omega arith), and-false (leb top (c / w)))))

  pub stale_none : (l : List ℕ) → l ≡ written (to_row w diagonal top left right top) (λ c. 0) l
  stale_none l = written_none (to_row w diagonal top left right top) (λ c. 0) l block_none

  -- a turn writes row i
  pub stale_turn : (i : ℕ) → 1 ≤ w → right ≤ w → top ≤ i → (l m : List ℕ) {r : List ℕ}
      → m ≡ written (to_row w diagonal top left right i) (λ c. 0) l → r ≡ written (in_row (i * w) left right diagonal i) (λ c. 0) m
      → r ≡ written (to_row w diagonal top left right (i + 1)) (λ c. 0) l
  stale_turn i some cols h l m before turn =
      turn
      ∙ rw before
      (written_both (to_row w diagonal top left right i) (in_row (i * w) left right diagonal i) (to_row w diagonal top left right (i + 1)) (λ c. 0) l (block_row i some cols h))

pub block-is : (w : ℕ) (diagonal : Bool) (b : Block) (l : List ℕ) {r : List ℕ}
    → r ≡ written (to_row w diagonal b.top b.left (b.left + b.columns) (b.top + b.rows)) (λ c. 0) l → r ≡ written (in_block w diagonal b) (λ c. 0) l
unfolding in_block
block-is w diagonal b l e = e
