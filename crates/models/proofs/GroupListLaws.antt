-- Group lists that stand list after list: where they start, that their places lie within the slices, and sums kept for
-- every group at once.
use mathlib.Core.Path.{◌≡◌, refl, sym, ap, ◌∙◌}
use mathlib.Core.Bool.{Bool, true, false, cond}
use mathlib.Core.Logic.{⊎_elim}
use mathlib.Core.List.{List, [], ◌∷◌, ◌++◌}
use Prim.Native.Nat.{ℕ, zero, suc, ◌+◌, ◌-◌, ◌*◌, ◌<◌, ◌≤◌}
use native.Mathlib.Nat.{eq-or-lt_of_le, le_of_suc-le-suc, le_antisymm}
use native.Mathlib.Numerals.{add-one}
use native.Mathlib.Omega.{arith}
use lib.Dec.{eqb}
use lib.ListN.{length, get_or, set, replicate, take, drop, length-set, get_or-append}
use Rattle.std.proofs.Common.{length-append, length-drop, length-take-le}
use Rattle.std.specs.List.{sum_by}
use Rattle.std.proofs.lemmas.List.{length_push}
use Rattle.std.proofs.lemmas.List.Sums.{sum_by_more}
use lib.Seq.{get_or-set_same, get_or-set_other, get_or-take, get_or-drop}
use lib.Ieee.{Float, nan, binary64, of_bits, lt}
use borrow.Author.Tests.{eqb-true, eqb-false}
use Rattle.arithmetic.specs.Floats.{◌⊕◌, ◌⊘◌, +0}
use Rattle.arithmetic.specs.Sums.{fold, sum, total}
use Rattle.arithmetic.specs.Tables.{at, from, part, Filled}
use Rattle.arithmetic.proofs.SumLaws.{fold_more, sum_more}
use Rattle.arithmetic.proofs.TableLaws.{part_length, by_place}
use Rattle.models.proofs.ColumnLaws.{zeros}
use Rattle.models.specs.Unifac as Unifac
use Rattle.models.specs.Unifac.{Groups, amount, amounts, fraction, pure_count, pure_fraction}
use Rattle.models.specs.Values.{start, counts_at}
use Rattle.models.specs.Steps.GroupLists.{Listed, Paired, Named, own, gathered, added, put}

-- ---- where a list starts

pub start_none : (lens : List ℕ) → 0 ≡ start lens 0
unfolding start
start_none lens = refl

pub start-more : (lens : List ℕ) (i : ℕ) {s l : ℕ} → s ≡ start lens i → l ≡ get_or lens i 0 → s + l ≡ start lens (i + 1)
unfolding start
start-more lens i p q = rw (add-one, p, q)

start-next : (lens : List ℕ) (i : ℕ) → start lens i + get_or lens i 0 ≡ start lens (i + 1)
start-next lens i = start-more lens i refl refl

pub start_up : (lens : List ℕ) (i n : ℕ) → i ≤ n → start lens i ≤ start lens n
unfolding start
start_up lens i zero h = let e : i ≡ 0 = omega arith in rw e (omega arith)
start_up lens i (suc n) h = ⊎_elim (λ e. rw e (omega arith)) (λ l. omega (arith, start_up lens i n (le_of_suc-le-suc l))) (eq-or-lt_of_le h)

-- a list's length is a byte
pub start_bound : (lens : List ℕ) (i : ℕ) → ((k : ℕ) → get_or lens k 0 < 256) → start lens i ≤ 255 * i
unfolding start
start_bound lens zero bytes = omega arith
start_bound lens (suc i) bytes = omega (arith, start_bound lens i bytes, bytes i)

pub start_sum : (lens : List ℕ) (i : ℕ) → i ≤ length lens → sum_by (λ x. x) (take i lens) ≡ start lens i
unfolding start
start_sum lens zero h = refl
start_sum lens (suc i) h = let m : suc i ≡ i + 1 = omega arith in rw m (sum_by_more (λ x. x) lens i 0 (omega arith) ∙ rw (start_sum lens i (omega arith)))

-- ---- the places of a list

pub list_place : (lens : List ℕ) (i n p : ℕ) → i < n → p < get_or lens i 0 → start lens i + p < start lens n
list_place lens i n p h b = omega (arith, start-next lens i, start_up lens (i + 1) n (omega arith))

-- the list of component i, which begins at s and ends at e, lent as parts
module _ {n ng : ℕ} {lens groups : List ℕ} {counts : List Float} {i s e : ℕ} (all : Listed n ng lens groups counts) (h : i < n) (here : s ≡ start lens i) (end : e ≡ s + get_or lens i 0) where
  pub list_end : e ≤ start lens n
  list_end = omega (arith, start-more lens i here refl, start_up lens (i + 1) n (omega arith))

  pub list_room : (s ≤ e) × (e ≤ length groups) × (e ≤ length counts)
  list_room = (omega arith, omega (arith, list_end, all.within), omega (arith, list_end, all.counted))

  pub list_length : length (part s e groups) ≡ e - s
  list_length = part_length s e groups (omega (arith, list_room))

  pub list_paired : Paired ng (part s e groups) (part s e counts)
  list_paired = record {
    counted = part_length s e counts (omega (arith, list_room)) ∙ sym list_length;
    below = λ p b. let c : p < e - s = omega (arith, list_length) in rw (get_or-take, get_or-drop) (all.below (s + p) (omega (arith, list_end)));
  }

-- ---- a loop over the places of a list, which has yielded xs

pub sum_push : {A : Type 0} (f : ℕ → Float) (xs : List A) (y : A) {s v : Float} → s ≡ sum (length xs) f → v ≡ f (length xs) → s ⊕ v ≡ sum (length (xs ++ (y ∷ []))) f
sum_push f xs y p q = rw (length_push xs y) (sum_more f (length xs) p q)

-- ---- a sum kept for every group at once

gathered_none : (group : ℕ → ℕ) (f : ℕ → Float → Float) (l : List Float) (m : ℕ) → Filled (λ k. gathered 0 group f k (at l k)) m l
unfolding gathered fold
gathered_none group f l m = record { each = λ k h. refl }

-- the place p names g, whose number becomes f p of it
gathered-more : (group : ℕ → ℕ) (f : ℕ → Float → Float) (old : ℕ → Float) (p m g : ℕ) {num : List Float} {v : Float} →
    g ≡ group p → g < length num → v ≡ f p (at num g) → m ≤ length num →
    Filled (λ k. gathered p group f k (old k)) m num → Filled (λ k. gathered (p + 1) group f k (old k)) m (set num g v)
unfolding gathered
gathered-more group f old p m g {num} {v} e b w long all = record {
  each = λ k h. fold_more (old k) (λ p s. cond (eqb (group p) k) (f p s) s) p (all.each k h) (by_test k (eqb g k) refl);
}
  where
    by_test : (k : ℕ) (t : Bool) → eqb g k ≡ t → at (set num g v) k ≡ cond (eqb (group p) k) (f p (at num k)) (at num k)
    by_test k true t = let q : g ≡ k = eqb-true g k t in rw (← e, t, ← q) (get_or-set_same num g v nan b ∙ w)
    by_test k false t = rw (← e, t) (get_or-set_other num g k v nan (λ q. eqb-false g k t (sym q)))

-- a loop over the places p of a list of len that gathers for every group at once
pub record Gathering (group : ℕ → ℕ) (f : ℕ → Float → Float) (len : ℕ) (old : List Float) (p : ℕ) (num : List Float) : Type 0 where
  pub within : p ≤ len
  pub long : length num ≡ length old
  pub numbers : Filled (λ k. gathered p group f k (at old k)) (length old) num

module _ {group : ℕ → ℕ} {f : ℕ → Float → Float} {len : ℕ} {old : List Float} where
  pub gathering_none : Gathering group f len old 0 old
  gathering_none = record { within = omega arith; long = refl; numbers = gathered_none group f old (length old) }

  pub gathering_start : {s : ℕ} → s ≡ 0 → Gathering group f len old s old
  gathering_start z = rw z gathering_none

  pub gathering_more : {p g : ℕ} {num : List Float} {v : Float} → p < len → g ≡ group p → g < length num → v ≡ f p (at num g) → Gathering group f len old p num → Gathering group f len old (p + 1) (set num g v)
  gathering_more {p} {g} h e b w all = record {
    within = omega arith;
    long = simp length-set all.long;
    numbers = gathered-more group f (at old) p (length old) g e b w (omega (arith, all.long)) all.numbers;
  }

  pub gathering_done : {p : ℕ} {num : List Float} → len ≤ p → Gathering group f len old p num → Filled (λ k. gathered len group f k (at old k)) (length old) num
  gathering_done h all = rw (← le_antisymm all.within h) all.numbers

pub gathering_push : {A : Type 0} {group : ℕ → ℕ} {f : ℕ → Float → Float} {len : ℕ} {old : List Float} (xs : List A) (y : A) {g : ℕ} {num : List Float} {v : Float} →
    length xs < len → g ≡ group (length xs) → g < length num → v ≡ f (length xs) (at num g) → Gathering group f len old (length xs) num → Gathering group f len old (length (xs ++ (y ∷ []))) (set num g v)
gathering_push xs y h e b w all = rw (length_push xs y) (gathering_more h e b w all)

-- ---- an array that has F of the groups named

module _ (group : ℕ → ℕ) (F : ℕ → Float) where
  pub named_none : (g : List Float) → Named 0 group F g
  named_none g = record { each = λ p h. absurd (omega arith) }

  -- one group more, perhaps one that was named before
  pub named_more : (p k : ℕ) {g : List Float} {v : Float} → k ≡ group p → k < length g → v ≡ F k → Named p group F g → Named (p + 1) group F (set g k v)
  named_more p k {g} {v} e b w all = record { each = λ o h. by_test o h (eqb k (group o)) refl }
    where
      by_test : (o : ℕ) → o < p + 1 → (t : Bool) → eqb k (group o) ≡ t → at (set g k v) (group o) ≡ F (group o)
      by_test o h true t = let q : k ≡ group o = eqb-true k (group o) t in rw (← q) (get_or-set_same g k v nan b ∙ w)
      by_test o h false t =
          let d : k ≡ group o → ⊥ = eqb-false k (group o) t in
          by_place o p (λ c. get_or-set_other g k (group o) v nan (λ q. d (sym q)) ∙ all.each o c) (λ q. absurd (d (e ∙ ap group q))) (λ c. absurd (omega arith))

  pub named-done : (p m : ℕ) {g : List Float} → p ≤ m → m ≤ p → Named p group F g → Named m group F g
  named-done p m a b all = rw (le_antisymm a b) at all

-- ---- fractions

pub front_length : (n : ℕ) (num front : List Float) → n ≤ length num → length front ≡ length (take n num) → length (front ++ drop n num) ≡ length num
front_length n num front room long = simp (length-append, length-drop) (omega (arith, long, length-take-le n num room))

-- the first n numbers each took its f, as a part that was lent
pub front_filled : (n : ℕ) (f : Float → Float) (num : List Float) {front : List Float} → n ≤ length num → length front ≡ length (take n num) →
    Filled (λ k. f (at (take n num) k)) (length (take n num)) front → Filled (λ k. f (at num k)) n (front ++ drop n num)
front_filled n f num {front} room long all =
    let size : length (take n num) ≡ n = length-take-le n num room in
    record { each = λ k h. get_or-append front (drop n num) nan k (omega arith) ∙ all.each k (omega arith) ∙ ap f (get_or-take n num k nan h) }

-- the first n numbers over w, as a part that was lent
pub over-front : (n : ℕ) (w : Float) (num : List Float) {r : List Float} → n ≤ length num → Filled (λ k. at (take n num) k ⊘ w) (length (take n num)) r → Filled (λ k. at num k ⊘ w) n r
over-front n w num room all =
    let size : length (take n num) ≡ n = length-take-le n num room in
    record { each = λ k h. all.each k (omega arith) ∙ ap (λ v. v ⊘ w) (get_or-take n num k nan h) }

module _ (c : Groups) (x : ℕ → Float) where
  pub amount-none : (m : ℕ) {num : List Float} → Filled (λ _. +0) m num → Filled (amount 0 c x) m num
  unfolding amount fold
  amount-none m zeros = record { each = zeros.each }

  pub amount-more : (i m : ℕ) {num after : List Float} → length num ≡ m → Filled (amount i c x) m num → Filled (λ k. added c (x i) i k (at num k)) (length num) after → Filled (amount (i + 1) c x) m after
  unfolding amount gathered
  amount-more i m long all turn = record { each = λ k h. fold_more _ _ i (all.each k h) (turn.each k (omega arith)) }

  pub fraction-over : (n ng m : ℕ) {w : Float} {num r : List Float} → w ≡ amounts n c x → lt (of_bits binary64 0) w ≡ true → ng ≤ m →
      Filled (amount n c x) m num → Filled (λ k. at num k ⊘ w) ng r → Filled (fraction n c x) ng r
  unfolding fraction of_bits
  fraction-over n ng m p t few all over = record { each = λ k h. rw (← p, t) (over.each k h ∙ rw (all.each k (omega arith))) }

  pub fraction-none : (n ng : ℕ) {w : Float} {r : List Float} → w ≡ amounts n c x → lt (of_bits binary64 0) w ≡ false → Filled (λ _. +0) ng r → Filled (fraction n c x) ng r
  unfolding fraction of_bits
  fraction-none n ng p t zeros = record { each = λ k h. rw (← p, t) (zeros.each k h) }

pub pure-over : (list : List ℕ) (counts : List Float) (ng : ℕ) {w : Float} {num r : List Float} → Paired ng list counts → w ≡ total counts → ng ≤ 32 →
    Filled (λ k. put (own list counts) 0 k (at (replicate 32 (of_bits binary64 0)) k)) 32 num → Filled (λ k. at num k ⊘ w) ng r → Filled (pure_fraction (own list counts) 0) ng r
unfolding pure_fraction pure_count Unifac.counts gathered total
pure-over list counts ng all p few put over = record {
  each = λ k h. over.each k h ∙ rw (p, all.counted, put.each k (omega arith), (zeros 32).each k (omega arith));
}

-- ---- faults

-- the counts lent from a place that was worked out
pub listed_at : {n ng : ℕ} {lens groups : List ℕ} (values : List Float) {s : ℕ} → s ≡ counts_at ng → Listed n ng lens groups (from (counts_at ng) values) → Listed n ng lens groups (from s values)
listed_at values e all = rw e all
