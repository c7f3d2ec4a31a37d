-- Left folds: none, one more, all of them, and equal terms.
use Rattle.std.proofs.Common.{◌≡◌, ℕ, zero, suc, ◌+◌, ◌<◌, ◌≤◌, List, length, take, refl, sym, ap, ◌∙◌, le_antisymm, add-one, arith}
use Rattle.std.specs.List as Lists
use Rattle.std.proofs.lemmas.List.{take_more, take_all}
use Rattle.std.proofs.lemmas.List.Sums.{fold_push}
use lib.Ieee.{Float, nan, binary64, of_bits}
use Rattle.arithmetic.specs.Floats.{◌⊕◌, +0}
use Rattle.arithmetic.specs.Sums.{fold, sum, total}
use Rattle.arithmetic.specs.Tables.{at}

pub fold_more : (s : Float) (f : ℕ → Float → Float) (j : ℕ) {a v : Float} → a ≡ fold j s f → v ≡ f j a → v ≡ fold (j + 1) s f
unfolding fold
fold_more s f j p q = rw (add-one, ← p, q)

-- a loop that counts j to n has the whole fold at its end
pub fold_done : (s : Float) (f : ℕ → Float → Float) (j n : ℕ) {a : Float} → a ≡ fold j s f → j ≤ n → n ≤ j → a ≡ fold n s f
fold_done s f j n p a b = rw (le_antisymm a b) at p

pub fold_same : (n : ℕ) (s : Float) (f g : ℕ → Float → Float) → ((k : ℕ) (a : Float) → k < n → f k a ≡ g k a) → fold n s f ≡ fold n s g
unfolding fold
fold_same zero s f g h = refl
fold_same (suc n) s f g h = rw (fold_same n s f g (λ k a b. h k a (omega arith)), h n (fold n s g) (omega arith))

-- the code's 0.0
pub sum-none : (f : ℕ → Float) → of_bits binary64 0 ≡ sum 0 f
unfolding sum fold of_bits
sum-none f = refl

pub sum_more : (f : ℕ → Float) (j : ℕ) {s v : Float} → s ≡ sum j f → v ≡ f j → s ⊕ v ≡ sum (j + 1) f
unfolding sum
sum_more f j {s} {v} p q = fold_more +0 (λ k s. s ⊕ f k) j p (ap (λ (w : Float). s ⊕ w) q)

pub sum_done : (f : ℕ → Float) (j n : ℕ) {s : Float} → s ≡ sum j f → j ≤ n → n ≤ j → s ≡ sum n f
sum_done f j n p a b = rw (le_antisymm a b) at p

pub sum_same : (n : ℕ) (f g : ℕ → Float) → ((k : ℕ) → k < n → f k ≡ g k) → sum n f ≡ sum n g
unfolding sum
sum_same n f g h = fold_same n +0 _ _ (λ k a b. ap (λ (v : Float). a ⊕ v) (h k b))

-- ---- a list's own fold

pub folded : (s : Float) (f : Float → Float → Float) (xs : List Float) (k : ℕ) → k ≤ length xs → Lists.fold f s (take k xs) ≡ fold k s (λ j a. f a (at xs j))
unfolding fold
folded s f xs zero h = refl
folded s f xs (suc k) h =
    ap (Lists.fold f s) (ap (λ j. take j xs) (sym (add-one k)) ∙ take_more xs k nan (omega arith))
    ∙ fold_push f s (take k xs) (at xs k)
    ∙ ap (λ a. f a (at xs k)) (folded s f xs k (omega arith))

-- the code's 0.0, and each number added
pub total-folded : (xs : List Float) → Lists.fold (λ s x. s ⊕ x) (of_bits binary64 0) xs ≡ total xs
unfolding total sum of_bits
total-folded xs = ap (Lists.fold (λ s x. s ⊕ x) +0) (sym (take_all (length xs) xs (omega arith))) ∙ folded +0 (λ s x. s ⊕ x) xs (length xs) (omega arith)
