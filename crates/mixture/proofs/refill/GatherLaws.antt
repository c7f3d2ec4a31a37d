-- What stale cells are the exp of: gathered one after the other and put back to their places, or a whole table's, whose last row
-- stands on the diagonal while exp runs.
use mathlib.Core.Path.{◌≡◌, refl, sym, ap, ◌∙◌, subst}
use mathlib.Core.Bool.{Bool, true, false}
use mathlib.Core.List.{List, [], ◌++◌, append-nil}
use borrow.Rule.Slice.PartMut.{put_mid}
use mathlib.Core.Logic.{inl, inr}
use Prim.Native.Nat.{ℕ, zero, suc, ◌+◌, ◌*◌, ◌-◌, ◌/◌, ◌%◌, ◌<◌, ◌≤◌}
use native.Mathlib.Nat.{le_antisymm, div-add-mod', mod-lt, div-lt_iff_lt-mul}
use native.Mathlib.Omega.{arith}
use borrow.Author.Tests.{eq-eqb}
use lib.ListN.{length, get_or, set, take, length-set}
use lib.Seq.{get_or-set_same, get_or-set_other}
use lib.Ieee.{Float, nan}
use Rattle.std.specs.List.{swap}
use Rattle.std.proofs.lemmas.List.Edits.{swapped_from_swap}
use Rattle.arithmetic.specs.Exponential.{exp_of}
use Rattle.arithmetic.specs.Tables.{at, grid, flat, Filled, up_to}
use Rattle.arithmetic.proofs.Tests.{le-or}
use Rattle.arithmetic.proofs.TableLaws.{by_place, cell-lt, cell_row, cell-column, flat-cell, row_next, upto_below}
use Rattle.models.proofs.ExponentialLaws.{part-more}
use Rattle.mixture.specs.Lists.{how_many}
use Rattle.mixture.specs.Steps.Refills.{stale_cell, cell_of, stale_of, Refilled, Gathered, Swapped, OffDiagonalTaken}
use Rattle.mixture.proofs.ListLaws.{never, written_as, how_many-le}
use Rattle.mixture.proofs.refill.FreshLaws.{many-none, many_more, many_skip, many-all, all_of}
use Rattle.mixture.proofs.RefillLaws.{put_is, among, among_in, among_below}

-- ---- a table all of whose cells are worked out: the diagonal's exponentials aren't, since it has no cells

-- a stale cell is off a diagonal that has no cells
off_diagonal : (mark i j : ℕ) → stale_cell false mark i j ≡ true → i ≡ j → ⊥
off_diagonal mark i j t e = never (sym (rw (eq-eqb i j e) at t))

-- places of rows of w are equal where row and column are
same_row : (w i j k l : ℕ) → j < w → l < w → i * w + j ≡ k * w + l → i ≡ k
same_row w i j k l a b e = sym (cell_row w i j a) ∙ (ap (λ (c : ℕ). c / w) e ∙ cell_row w k l b)

same-column : (w i j k l : ℕ) → j < w → l < w → i * w + j ≡ k * w + l → j ≡ l
same-column w i j k l a b e = sym (cell-column w i j a) ∙ (ap (λ (c : ℕ). c % w) e ∙ cell-column w k l b)

-- entries of the diagonal and of the last row change places one by one
module _ (w k : ℕ) {l m r : List Float} (h : k < w - 1) (g : w * w ≤ length m) (e : r ≡ swap m ((w - 1) * w + k) (k * w + k)) (so : Swapped w k l m) where
  now : (at r ((w - 1) * w + k) ≡ at m (k * w + k)) × (at r (k * w + k) ≡ at m ((w - 1) * w + k))
      × ((c : ℕ) → (c ≡ (w - 1) * w + k → ⊥) → (c ≡ k * w + k → ⊥) → at r c ≡ at m c)
  now =
      swapped_from_swap m r ((w - 1) * w + k) (k * w + k) nan
      (omega (arith, cell-lt w w (w - 1) k (omega arith) (omega arith))) (omega (arith, cell-lt w w k k (omega arith) (omega arith))) e

  -- a place of the diagonal is no other's, and none of the last row's
  apart : (i j : ℕ) → i < w → j < w → i * w + i ≡ j * w + j → i ≡ j
  apart i j b c q = same_row w i i j j b c q

  across : (i j : ℕ) → i < w - 1 → j < w → i * w + i ≡ (w - 1) * w + j → ⊥
  across i j b c q = let e = same_row w i i (w - 1) j (omega arith) c q in omega arith

  pub swapped_more : Swapped w (k + 1) l r
  swapped_more = record {
    laid = λ i b.
        by_place i k
        (λ c. now.2 (i * w + i) (across i k (omega arith) (omega arith)) (λ q. omega (arith, apart i k (omega arith) (omega arith) q)) ∙ so.laid i c)
        (λ q.
        rw (← q)
        (now.1 ∙ so.kept ((w - 1) * w + k) (λ j c. (λ z. across j k (omega arith) (omega arith) (sym z), λ z. omega arith))))
        (λ c. absurd (omega arith));
    lifted = λ i b.
        by_place i k
        (λ c. now.2 ((w - 1) * w + i) (λ q. omega arith) (λ q. across k i h (omega arith) (sym q)) ∙ so.lifted i c)
        (λ q.
        rw (← q)
        (now.0 ∙ so.kept (k * w + k) (λ j c. (λ z. omega (arith, apart k j (omega arith) (omega arith) z), across k j h (omega arith)))))
        (λ c. absurd (omega arith));
    kept = λ c free.
        let f = free k (omega arith) in now.2 c f.1 f.0 ∙ so.kept c (λ i b. free i (omega arith));
  }

-- meanwhile exp runs over the rows above the last
pub exp_off : (w : ℕ) {l a b m : List Float} → (w - 1) * w ≤ length a → Swapped w (w - 1) l a
    → Filled (up_to ((w - 1) * w) (λ c. exp_of (at a c)) (at a)) (length a) b → Swapped w (w - 1) b m → OffDiagonalTaken w l m
exp_off w {l} {a} {b} {m} h down each up =
    record { each = λ i j x y ne. by_place i (w - 1) (λ c. above i j c y ne) (λ q. last i j q y ne) (λ c. absurd (omega arith)) }
  where
    taken : (c : ℕ) → c < (w - 1) * w → at b c ≡ exp_of (at a c)
    taken c k = each.each c (omega arith) ∙ upto_below _ _ _ c k

    free : (i j : ℕ) → i < w - 1 → j < w → (i ≡ j → ⊥) → (k : ℕ) → k < w - 1 → (i * w + j ≡ k * w + k → ⊥) × (i * w + j ≡ (w - 1) * w + k → ⊥)
    free i j x y ne k z = (
      λ q. ne (same_row w i j k k y (omega arith) q ∙ sym (same-column w i j k k y (omega arith) q)),
      λ q. let e = same_row w i j (w - 1) k y (omega arith) q in omega arith,
    )

    above : (i j : ℕ) → i < w - 1 → j < w → (i ≡ j → ⊥) → grid w m i j ≡ exp_of (grid w l i j)
    above i j x y ne =
        up.kept (i * w + j) (free i j x y ne) ∙ taken (i * w + j) (cell-lt (w - 1) w i j x y)
        ∙ ap exp_of (down.kept (i * w + j) (free i j x y ne))

    last : (i j : ℕ) → w - 1 ≡ i → j < w → (i ≡ j → ⊥) → grid w m i j ≡ exp_of (grid w l i j)
    last i j q y ne =
        let c : j < w - 1 = by_place j (w - 1) (λ c. c) (λ c. absurd (ne (sym q ∙ c))) (λ c. absurd (omega arith)) in
        rw (← q) (up.lifted j c ∙ taken (j * w + j) (cell-lt (w - 1) w j j c y) ∙ ap exp_of (down.laid j c))

-- ---- the table of arguments

module _ (w : ℕ) (A : ℕ → ℕ → Float) where
  -- row i, which starts at place k, comes back in the middle
  pub table_more : (i : ℕ) {l ys : List Float} {k : ℕ} → k ≡ i * w → i * w ≤ length l → w ≤ length ys
      → Filled (A i) w ys → Filled (flat w A) (i * w) l → Filled (flat w A) ((i + 1) * w) (put_mid k (length l - k) l ys)
  table_more i {l} {ys} e h y row all =
      rw (e, put_is l (i * w) h ys, row_next w i)
      (subst (λ (z : List Float). Filled (flat w A) (i * w + w) (take (i * w) l ++ z)) (append-nil ys)
      (part-more _ (i * w) w l ys [] h y all (λ j b. row.each j b ∙ sym (flat-cell w A i j b))))

  -- exp of each off the diagonal is the exponential of its stale cell
  cells : (marks : List ℕ) {l m : List Float} → Filled (flat w A) (w * w) l → OffDiagonalTaken w l m
      → (c : ℕ) → c < w * w → stale_of false w marks c ≡ true → at m c ≡ cell_of w A c
  unfolding flat
  cells marks {l} {m} args taken c b t =
      let some : 0 < w = wide c b in
      let place : c / w * w + c % w ≡ c = div-add-mod' c w in
      let here = taken.each (c / w) (c % w) ((div-lt_iff_lt-mul {k = w} {x = c} {y = w} some).1 b) (mod-lt c some) (off_diagonal (get_or marks c 0) (c / w) (c % w) t) in
      subst (λ (z : ℕ). at m z ≡ exp_of (at l z)) place here ∙ ap exp_of (args.each c b)
    where
      wide : (c : ℕ) → c < w * w → 0 < w
      wide c b = elim (le-or w 0) [ inl z ↦ let e : w ≡ 0 = omega arith in absurd (none e b) | inr z ↦ z ]
        where
          none : w ≡ 0 → c < w * w → ⊥
          none e b = let b' = rw e at b in omega arith

  pub table-cells : (marks : List ℕ) {d : Bool} {v : ℕ} {l m : List Float} → d ≡ false → v ≡ w → Filled (flat w A) (w * w) l → OffDiagonalTaken v l m
      → (c : ℕ) → c < w * w → stale_of d w marks c ≡ true → at m c ≡ cell_of w A c
  table-cells marks f e args taken c b t = cells marks args (rw e at taken) c b (rw f at t)

-- ---- counting: before a place that passes there are fewer

how_many_mono : (n k : ℕ) (p : ℕ → Bool) → k ≤ n → how_many k p ≤ how_many n p
unfolding how_many
how_many_mono zero k p h = let e : k ≡ 0 = omega arith in rw e (omega arith)
how_many_mono (suc n) k p h =
    elim (le-or (suc n) k) [
      | inl b ↦ rw (le_antisymm h b) (omega arith)
      | inr b ↦ omega (arith, how_many_mono n k p (omega arith))
    ]

pub how_many-lt : (n k : ℕ) (p : ℕ → Bool) → k < n → p k ≡ true → how_many k p < how_many n p
how_many-lt n k p h t = omega (arith, how_many_mono n (k + 1) p (omega arith), many_more p k refl t refl)

-- ---- gathering

module _ (p : ℕ → Bool) (f : ℕ → Float) where
  pub gathered_none : (l : List Float) → Gathered 0 p f l 0
  gathered_none l = record { counted = many-none p; each = λ j h t. absurd (omega arith) }

  module _ (j : ℕ) {l : List Float} {r : ℕ} (so : Gathered j p f l r) where
    pub gathered_skip : {m : List Float} {s : ℕ} → p j ≡ false → m ≡ l → s ≡ r → Gathered (j + 1) p f m s
    gathered_skip t x y = record {
      counted = many_skip p j so.counted t y;
      each = λ k h q.
          by_place k j
          (λ b. ap (λ (m : List Float). at m (how_many k p)) x ∙ so.each k b q)
          (λ e. never (sym (ap p e ∙ q) ∙ t))
          (λ b. absurd (omega arith));
    }

    pub gathered-more : {m : List Float} {s : ℕ} {v : Float} → p j ≡ true → v ≡ f j → r < length l → m ≡ set l r v → s ≡ r + 1 → Gathered (j + 1) p f m s
    gathered-more {v = v} t e h x y = record {
      counted = many_more p j so.counted t y;
      each = λ k b q.
          ap (λ (m : List Float). at m (how_many k p)) x
          ∙ by_place k j
          (λ c. get_or-set_other l r (how_many k p) v nan (λ d. omega (arith, how_many-lt j k p c q, so.counted)) ∙ so.each k c q)
          (λ c. same k (sym c))
          (λ c. absurd (omega arith));
    }
      where
        same : (k : ℕ) → k ≡ j → at (set l r v) (how_many k p) ≡ f k
        same k c = rw (c, ← so.counted) (get_or-set_same l r v nan h ∙ e)

-- what a loop over places keeps: those passed are gathered, the slice is as long, and the count is within the places
pub record Gathering (n j : ℕ) (p : ℕ → Bool) (f : ℕ → Float) (l : List Float) (r : ℕ) : Type 0 where
  pub all : Gathered j p f l r
  pub long : length l ≡ n
  pub few : r ≤ j

pub gathering_none : (p : ℕ → Bool) (f : ℕ → Float) (l : List Float) → Gathering (length l) 0 p f l 0
gathering_none p f l = record { all = gathered_none p f l; long = refl; few = omega arith }

module _ {n j : ℕ} {p : ℕ → Bool} {f : ℕ → Float} {l : List Float} {r : ℕ} (so : Gathering n j p f l r) {b : Bool} (told : b ≡ p j) {m : List Float} {s : ℕ} where
  pub gathering_skip : b ≡ false → m ≡ l → s ≡ r → Gathering n (j + 1) p f m s
  gathering_skip t x y = record {
    all = gathered_skip p f j so.all (sym told ∙ t) x y;
    long = ap length x ∙ so.long;
    few = let h = so.few in omega arith;
  }

  pub gathering_more : {v : Float} → j < n → b ≡ true → v ≡ f j → m ≡ set l r v → s ≡ r + 1 → Gathering n (j + 1) p f m s
  gathering_more {v} h t e x y = record {
    all = gathered-more p f j so.all (sym told ∙ t) e (omega (arith, so.few, so.long)) x y;
    long = ap length x ∙ length-set l r v ∙ so.long;
    few = let h = so.few in omega arith;
  }

-- all pass: each stands at its own place
pub gathered-all : (n : ℕ) (p : ℕ → Bool) (f : ℕ → Float) {l : List Float} {r : ℕ} → r ≡ how_many n p → r ≡ n → Filled f n l → Gathered n p f l r
gathered-all n p f {l} e q all = record {
  counted = e;
  each = λ j h t. ap (at l) (many-all j p (λ k b. all_of n p (sym e ∙ q) k (omega arith))) ∙ all.each j h;
}

-- ---- put back

-- what is put to the places that pass is f there
pub refilled_where : (n : ℕ) (p : ℕ → Bool) (f g : ℕ → Float) (cells : List Float) (marks : List ℕ) {cells' : List Float} {marks' : List ℕ} {r : ℕ} → ((c : ℕ) → c < n → p c ≡ true → f c ≡ g c)
    → Refilled n p f cells marks cells' marks' r → Refilled n p g cells marks cells' marks' r
refilled_where n p f g cells marks e r =
    record {
      worked = r.worked ∙ written_as (among n p) f g cells (λ c t. let b = among_below n p c t in e c b (sym (among_in n p c b) ∙ t));
      marked = r.marked;
      counted = r.counted;
    }

-- exp of each that was gathered is the exponential of its place
pub gathered_exp : {n : ℕ} {p : ℕ → Bool} {F E : ℕ → Float} {l l' : List Float} {r : ℕ} → r ≤ length l → Gathered n p F l r → ((j : ℕ) → exp_of (F j) ≡ E j)
    → Filled (up_to r (λ k. exp_of (at l k)) (at l)) (length l) l' → (j : ℕ) → j < n → p j ≡ true → at l' (how_many j p) ≡ E j
gathered_exp {n} {p} {F} {E} {l} {l'} {r} h all e each j b t =
    let low : how_many j p < r = omega (arith, how_many-lt n j p b t, all.counted) in
    each.each (how_many j p) (omega arith) ∙ upto_below r _ _ (how_many j p) low ∙ ap exp_of (all.each j b t) ∙ e j

pub gathered-few : {n : ℕ} {p : ℕ → Bool} {f : ℕ → Float} {l : List Float} {r : ℕ} → Gathered n p f l r → r ≤ n
gathered-few {n} {p} all = rw all.counted (how_many-le n p)
