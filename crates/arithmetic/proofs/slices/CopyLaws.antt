-- A copy place after place. Of s into the list old, `to` is what stands there after k turns: those passed, then the old ones.
use Rattle.std.proofs.Common.{◌≡◌, ℕ, suc, ◌+◌, ◌<◌, ◌≤◌, List, ◌++◌, length, get_or, take, drop, set, sym, ap, ◌∙◌, append-nil, le_of_eq, add-one, arith, length-set, drop_of_length-le, length-take-le, drop-cons, take-suc}
use lib.Seq.{append_snoc, set_at, take-length}

module _ {A : Type 0} (s old to : List A) (k : ℕ) (so : to ≡ take k s ++ drop k old) where
  -- z is what a place past the end reads as
  pub copy_turn : (z : A) → length s ≤ length old → k < length s → set to k (get_or s k z) ≡ take (k + 1) s ++ drop (k + 1) old
  copy_turn z fits h =
      rw (so, drop-cons old k z (omega arith))
      (set_at (take k s) (get_or old k z) (drop (suc k) old) (get_or s k z) k (length-take-le k s (omega arith))
      ∙ rw (add-one k, take-suc s k z h) (sym (append_snoc (take k s) (get_or s k z) (drop (suc k) old))))

  pub copy_done : k ≡ length s → to ≡ s ++ drop (length s) old
  copy_done e = so ∙ rw (e, take-length)

-- the loop's invariant
abbrev pub Copied : {A : Type 0} → List A → List A → List A → ℕ → Type 0
Copied s old to k = (k ≤ length s) × (length to ≡ length old) × (to ≡ take k s ++ drop k old)

module _ {A : Type 0} (s old to : List A) (k : ℕ) (copied : Copied s old to k) where
  pub copied_more : {v : A} (z : A) → v ≡ get_or s k z → length s ≤ length old → k < length s → Copied s old (set to k v) (k + 1)
  copied_more {v} z e fits h = (omega arith, length-set to k v ∙ copied.1, ap (set to k) e ∙ copy_turn s old to k copied.2 z fits h)

  pub copied_all : length s ≤ k → to ≡ s ++ drop (length s) old
  copied_all h = copy_done s old to k copied.2 (omega (arith, copied.0))

-- what is copied over a list as long is all that stands there
pub all_of : {A : Type 0} (s old : List A) → length s ≡ length old → s ++ drop (length s) old ≡ s
all_of s old e = ap (λ l. s ++ l) (drop_of_length-le old (le_of_eq (sym e))) ∙ append-nil s
