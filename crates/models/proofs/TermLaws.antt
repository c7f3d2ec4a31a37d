-- The first n places of a slice, lent as a part of their own, and the others, which stay; and terms with one put right.
use Rattle.std.proofs.Common.{slice_set, add-zero, zero-add, zero, suc, [], ◌∷◌, ◌≡◌, ℕ, ◌+◌, ◌-◌, ◌<◌, ◌≤◌, List, ◌++◌, length, take, drop, sym, refl, ap, ◌∙◌, arith, get_or-append-add, get_or-drop, get_or-take}
use lib.ListN.{get_or-append}
use lib.Ieee.{Float, nan}
use denote.Param.Members.{Mut}
use Rattle.std.specs.Fn.{Called}
use Rattle.std.specs.Iterator.{Drains}
use Rattle.std.proofs.iter.Yields.{nat_range_steps}
use Rattle.std.specs.List.{FoldsTo, range_with_len, fold as list_fold}
use Rattle.std.proofs.lemmas.Fn.{fold_over}
use Rattle.std.proofs.lemmas.Iterator.{YieldsList-from_range}
use Rattle.std.proofs.lemmas.List.Sums.{fold-append}
use Rattle.arithmetic.specs.Floats.{◌⊕◌}
use Rattle.arithmetic.specs.Sums.{fold, sum}
use Rattle.arithmetic.specs.Tables.{at, Filled, up_to}
use Rattle.arithmetic.proofs.SumLaws.{sum_same}
use Rattle.models.specs.Steps.Terms.{with_own}
use Rattle.models.proofs.ColumnLaws.{filled_put, row-added}
use borrow.Author.Tests.{eq-eqb, ne_eqb}
use Rattle.arithmetic.proofs.TableLaws.{by_place, upto_below, upto_above, upto_more, upto_next}

pub part_filled : {t : ℕ → Float} {n p : ℕ} {y : List Float} (rest : List Float) → n ≤ length y → n ≤ p → Filled t p y → Filled t n (y ++ rest)
part_filled {y = y} rest h le all = record { each = λ k b. get_or-append y rest nan k (omega arith) ∙ all.each k (omega arith) }

-- a loop over that part that adds t to each place
pub part_old : (new : ℕ → Float) (n : ℕ) (l : List Float) → Filled (up_to 0 new (at l)) n (take n l)
part_old new n l = record { each = λ j b. get_or-take n l j nan b ∙ sym (upto_above 0 new (at l) j (omega arith)) }

pub part_more : (t : ℕ → Float) (n k : ℕ) (l : List Float) {y : List Float} {v : Float} → n ≡ length y → k < n → v ≡ t k →
    Filled (up_to k (λ j. at l j ⊕ t j) (at l)) n y → Filled (up_to (k + 1) (λ j. at l j ⊕ t j) (at l)) n (slice_set y k (at y k ⊕ v))
part_more t n k l {y} {v} e b w all =
    upto_more (λ j. at l j ⊕ t j) (at l) k n (omega (arith, e)) (rw (upto_next (λ j. at l j ⊕ t j) (at l) k n b all, w)) all

pub part_rewritten : (new : ℕ → Float) (n k : ℕ) (l y : List Float) → n ≡ length y → n ≤ k → Filled (up_to k new (at l)) n y → Filled (up_to n new (at l)) (length l) (y ++ drop n l)
part_rewritten new n k l y e le all = record { each = λ j b. by_place j n (λ c. below j c) (λ q. above j (omega arith)) (λ d. above j (omega arith)) }
  where
    below : (j : ℕ) → j < n → at (y ++ drop n l) j ≡ up_to n new (at l) j
    below j c = get_or-append y (drop n l) nan j (omega (arith, e)) ∙ all.each j c ∙ upto_below k new (at l) j (omega arith) ∙ sym (upto_below n new (at l) j c)

    above : (j : ℕ) → n ≤ j → at (y ++ drop n l) j ≡ up_to n new (at l) j
    above j c =
        let q : j ≡ length y + (j - n) = omega (arith, e) in
        let p : n + (j - n) ≡ j = omega arith in
        ap (at (y ++ drop n l)) q ∙ get_or-append-add y (drop n l) (j - n) nan ∙ rw (get_or-drop) (ap (at l) p) ∙ sym (upto_above n new (at l) j c)

-- ---- own for term i

pub own_on : (i : ℕ) (own : Float) (t : ℕ → Float) → with_own i own t i ≡ own
unfolding with_own
own_on i own t = rw (eq-eqb i i refl)

pub own_off : (i k : ℕ) (own : Float) (t : ℕ → Float) → (i ≡ k → ⊥) → with_own i own t k ≡ t k
unfolding with_own
own_off i k own t h = rw (ne_eqb i k h)

-- the place of term i put right, where all terms stand
pub own_put : (n i : ℕ) (own : Float) (t : ℕ → Float) {y : List Float} → i < length y → Filled t n y → Filled (with_own i own t) n (slice_set y i own)
own_put n i own t h all = filled_put n i h (λ k b d. sym (own_off i k own t d)) (sym (own_on i own t)) all

-- and where all are added
pub own_added : (n i : ℕ) (own : Float) (t : ℕ → Float) (s s' : List Float) → i < n → n ≤ length s → Filled (up_to n (λ j. at s j ⊕ t j) (at s)) (length s) s' → length s' ≡ length s →
    Filled (up_to n (λ j. at s j ⊕ with_own i own t j) (at s)) (length s) (slice_set s' i (at s i ⊕ own))
own_added n i own t s s' b h all same =
    row-added n i _ _ s s' b h (λ k d. ap (λ (z : Float). at s k ⊕ z) (sym (own_off i k own t d))) (ap (λ (z : Float). at s i ⊕ z) (sym (own_on i own t))) all same

-- a sum of terms that F gives, own where i is F's
pub own_sum : (n i : ℕ) (own : Float) (t F : ℕ → Float) → own ≡ F i → ((k : ℕ) → k < n → (i ≡ k → ⊥) → t k ≡ F k) → sum n (with_own i own t) ≡ sum n F
own_sum n i own t F here off = sum_same n _ _ (λ k b. by_place k i (λ c. apart k b (λ q. absurd (omega arith))) (λ q. rw (← q) (own_on i own t ∙ here)) (λ d. apart k b (λ q. absurd (omega arith))))
  where
    apart : (k : ℕ) → k < n → (i ≡ k → ⊥) → with_own i own t k ≡ F k
    apart k b d = own_off i k own t d ∙ off k b d

-- ---- a fold over the numbers below n, by a closure that stays as it is

range_more : (a n : ℕ) → range_with_len a (suc n) ≡ range_with_len a n ++ ((a + n) ∷ [])
range_more a zero = rw (add-zero) refl
range_more a (suc n) = ap (λ (ks : List ℕ). a ∷ ks) (range_more (a + 1) n ∙ rw (let e : a + 1 + n ≡ a + suc n = omega arith in e) refl)

range_folded : (f : ℕ → Float → Float) (a : Float) (n : ℕ) → list_fold (λ s k. f k s) a (range_with_len 0 n) ≡ fold n a f
unfolding fold
range_folded f a zero = refl
range_folded f a (suc n) = ap (list_fold (λ s k. f k s) a) (range_more 0 n) ∙ fold-append _ a (range_with_len 0 n) ((0 + n) ∷ []) ∙ rw (zero-add) (ap (f n) (range_folded f a n))

pub range_fold : {F : Type 0} (g : Mut F (Float × (ℕ × Unit {0})) Float) (f : ℕ → Float → Float) (now : F) → ((s : Float) (k : ℕ) (r : Float) (f' : F) → Called g now (s, (k, tt)) r f' → (r ≡ f k s) × (f' ≡ now)) →
    (n : ℕ) (a r : Float) → (xs : List ℕ) × (f' : F) × Drains nat_range_steps (record { start = 0; end = n }) xs × FoldsTo {P = F × Float} (λ p x q. Called g p.0 (p.1, (x, tt)) q.1 q.0) (now, a) xs (f', r) → r ≡ fold n a f
range_fold g f now step n a r ran =
    fold_over nat_range_steps (λ k. k) g (λ ks s. s ≡ list_fold (λ s k. f k s) a ks) now
    (λ ks s k b f' j c. let e = step s k b f' c in (e.0 ∙ ap (f k) j ∙ sym (fold-append (λ s k. f k s) a ks (k ∷ [])), e.1)) (record { start = 0; end = n }) (range_with_len 0 n) a r
    (YieldsList-from_range 0 n n refl (omega arith)).runs refl ran ∙ range_folded f a n
