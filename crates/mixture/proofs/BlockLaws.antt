-- Blocks of cells: which block the cells of a model are, and those that a setting makes stale.
use mathlib.Core.Path.{◌≡◌, refl, sym, ◌∙◌}
use mathlib.Core.Bool.{Bool, true, false, not, ◌&&◌, ◌||◌, and-true, and-false}
use mathlib.Core.List.{List}
use mathlib.Core.Logic.{inl, inr}
use Prim.Native.Nat.{ℕ, ◌+◌, ◌*◌, ◌/◌, ◌%◌, ◌<◌, ◌≤◌}
use native.Mathlib.Nat.{zero-add, div-add-mod', mod-lt, mul-le-mul_right}
use native.Mathlib.Omega.{arith}
use lib.Dec.{leb, ltb, eqb}
use borrow.Author.Tests.{eqb-true, lt-ltb, le-ltb, le-leb, lt-leb, eq-eqb, ne_eqb}
use Rattle.arithmetic.proofs.Tests.{le-or}
use Rattle.arithmetic.proofs.TableLaws.{by_place, cell-lt}
use Rattle.models.specs.declared.model.Model.{Model}
use Rattle.models.specs.declared.model.Model.TheVariants.{Wilson, Uniquac, Nrtl, Unifac}
use Rattle.mixture.specs.Lists.{written}
use Rattle.mixture.specs.Holdings.{Held, held}
use Rattle.mixture.specs.Cells.{width, is_cell}
use Rattle.models.specs.Model.{ModelData, table_width, has_groups}
use Rattle.mixture.specs.Layout.{cell_at}
use Rattle.mixture.specs.Steps.Blocks.{in_block, block}
use Rattle.mixture.proofs.ListLaws.{written_same}

-- ---- places

-- a place within w rows of w is in one of these rows
rows-lt : (w c : ℕ) → 1 ≤ w → ltb c (w * w) ≡ ltb (c / w) w
rows-lt w c some =
    elim (le-or w (c / w)) [
      | inl h ↦ le-ltb c (w * w) (omega (arith, div-add-mod' c w, mul-le-mul_right {m = w} {n = c / w} w h)) ∙ sym (le-ltb (c / w) w h)
      | inr h ↦ lt-ltb c (w * w) (omega (arith, div-add-mod' c w, cell-lt w w (c / w) (c % w) h (mod-lt c some))) ∙ sym (lt-ltb (c / w) w h)
    ]

pub cell-is : (d : Held) (i j : ℕ) → is_cell d i j ≡ (has_groups d.model || not (eqb i j))
unfolding is_cell
cell-is d i j = go d.model refl
  where
    go : (k : Model) → d.model ≡ k → is_cell d i j ≡ (has_groups d.model || not (eqb i j))
    go Wilson e = rw e
    go Uniquac e = rw e
    go Nrtl e = rw e
    go Unifac e = rw e

at_one : (i k : ℕ) → (leb i k && ltb k (i + 1)) ≡ eqb k i
at_one i k =
    by_place k i
    (λ (b : k < i). rw (lt-leb i k b, ne_eqb k i (λ (e : k ≡ i). omega arith)))
    (λ (e : i ≡ k). rw (le-leb i k (omega arith), lt-ltb k (i + 1) (omega arith), eq-eqb k i (sym e)))
    (λ (b : i < k). rw (le-ltb k (i + 1) (omega arith), ne_eqb k i (λ (e : k ≡ i). omega arith)) (and-false (leb i k)))

-- within the rows
one : (a b c l : Bool) → (a ≡ true → l ≡ true) → (a && (b && c)) ≡ ((l && c) && (a && b))
one true true c l h = rw (h refl) (sym (and-true c))
one true false c l h = sym (and-false (l && c))
one false b c l h = sym (and-false (l && c))

module _ (d : Held) (w : ℕ) (diagonal : Bool) (e : w ≡ width d) (f : diagonal ≡ has_groups d.model) (some : 1 ≤ w) where
  cell-at : (c : ℕ) → cell_at d c ≡ (ltb (c / w) w && (diagonal || not (eqb (c / w) (c % w))))
  unfolding cell_at
  cell-at c = rw (← e, rows-lt w c some, cell-is d (c / w) (c % w), f)

  -- all cells
  all-cells : (c : ℕ) → in_block w diagonal (block 0 w 0 w) c ≡ cell_at d c
  unfolding in_block
  all-cells c = rw (cell-at c, zero-add w, le-leb 0 (c / w) (omega arith), le-leb 0 (c % w) (omega arith), lt-ltb (c % w) w (mod-lt c some))

  -- one cell, and a row
  module _ (i : ℕ) (rows : i < w) (c : ℕ) where
    within : eqb (c / w) i ≡ true → ltb (c / w) w ≡ true
    within t = lt-ltb (c / w) w (omega (arith, eqb-true (c / w) i t))

    pub one_cell : (j : ℕ) → in_block w diagonal (block i 1 j 1) c ≡ (cell_at d c && (eqb (c / w) i && eqb (c % w) j))
    unfolding in_block
    one_cell j = rw (cell-at c, at_one i (c / w), at_one j (c % w)) (one (eqb (c / w) i) (eqb (c % w) j) (diagonal || not (eqb (c / w) (c % w))) (ltb (c / w) w) within)

    pub one-row : in_block w diagonal (block i 1 0 w) c ≡ (cell_at d c && (eqb (c / w) i && true))
    unfolding in_block
    one-row =
        rw (cell-at c, at_one i (c / w), le-leb 0 (c % w) (omega arith), zero-add w, lt-ltb (c % w) w (mod-lt c some))
        (one (eqb (c / w) i) true (diagonal || not (eqb (c / w) (c % w))) (ltb (c / w) w) within)

  pub no_cells : (c : ℕ) → in_block w diagonal (block 0 0 0 0) c ≡ (cell_at d c && false)
  unfolding in_block
  no_cells c = rw (le-ltb (c / w) (0 + 0) (omega arith), and-false (leb 0 (c / w))) (sym (and-false (cell_at d c)))

  pub every_cell : (c : ℕ) → in_block w diagonal (block 0 w 0 w) c ≡ (cell_at d c && true)
  every_cell c = all-cells c ∙ sym (and-true (cell_at d c))

-- ---- marks made stale

module _ (d : ModelData) {model : Model} {n ng w : ℕ} (so : (d.model ≡ model) × (d.n ≡ n) × (d.ng ≡ ng)) where
  wide : w ≡ table_width model n ng → w ≡ width (held d)
  unfolding width
  wide e = rw (so.0, so.1, so.2) e

  pub cells_stale : {diagonal : Bool} → w ≡ table_width model n ng → diagonal ≡ has_groups model → 1 ≤ w → (l : List ℕ) {r : List ℕ}
      → r ≡ written (in_block w diagonal (block 0 w 0 w)) (λ c. 0) l
      → r ≡ written (cell_at (held d)) (λ c. 0) l
  cells_stale {diagonal} e f some l s = s ∙ written_same _ _ (λ c. 0) l (all-cells (held d) w diagonal (wide e) (rw so.0 f) some)
