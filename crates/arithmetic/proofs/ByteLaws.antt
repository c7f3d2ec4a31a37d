-- Which bit patterns are NaN, and floats decoded one after the other.
use Rattle.std.proofs.Common.{◌≡◌, ℕ, zero, suc, ◌+◌, ◌*◌, ◌<◌, true, false, not, T, List, [], ◌∷◌, ◌++◌, length, take, set, sym, refl, ap, ◌∙◌, inl, inr, true≢false, add-one, arith, length-append, take-suc-set, get_or-append-add}
use lib.ListN.{get_or-append}
use lib.Ieee.{Float, nan, inf, fin, binary64, of_bits, to_bits, is_nan, ne}
use Rattle.arithmetic.specs.Bytes.{word_at, float_at, floats_at, bits_of}
use Rattle.arithmetic.specs.Tables.{at}
use Rattle.arithmetic.proofs.Tests.{failed, le-or}

pub nan_is : (v : Float) → is_nan v ≡ true → v ≡ nan
unfolding is_nan
nan_is nan e = refl
nan_is (inf s) e = absurd (true≢false (sym e))
nan_is (fin s m x) e = absurd (true≢false (sym e))

-- a float that equals itself
pub no_nan : (v : Float) → ne v v ≡ false → is_nan v ≡ false
unfolding ne is_nan
no_nan nan e = e
no_nan (inf s) e = refl
no_nan (fin s m x) e = refl

-- the bits with one pattern for NaN, as the library gives them
pub bits_are : (v : Float) → to_bits binary64 v ≡ bits_of v
unfolding bits_of is_nan to_bits
bits_are nan = refl
bits_are (inf s) = refl
bits_are (fin s m x) = refl

pub has_bits : (v : Float) → ne v v ≡ false → T (not (is_nan v))
has_bits v e = failed (no_nan v e)

pub float_is : (s : List ℕ) (p low high : ℕ) (r : Float) → low ≡ word_at s p → high ≡ word_at s (p + 4) → r ≡ of_bits binary64 (low + 4294967296 * high) → r ≡ float_at s p
unfolding float_at
float_is s p low high r a b e = e ∙ rw (a, b)

-- ---- floats one after the other

pub floats-more : (s : List ℕ) (p : ℕ) (a : List Float) (k : ℕ) (v : Float) → k < length a → take k a ≡ floats_at s p k → v ≡ float_at s (p + 8 * k) → take (k + 1) (set a k v) ≡ floats_at s p (k + 1)
unfolding floats_at
floats-more s p a k v h e q = rw (add-one k, take-suc-set a k v h, e, q)

pub length-floats : (s : List ℕ) (p n : ℕ) → length (floats_at s p n) ≡ n
unfolding floats_at
length-floats s p zero = refl
length-floats s p (suc n) = simp (length-append, length-floats s p n) (omega arith)

pub floats-done : (s : List ℕ) (p n k : ℕ) (a : List Float) → k ≡ n → take k a ≡ floats_at s p k → (n ≡ length (take n a)) × (take n a ≡ floats_at s p n)
floats-done s p n k a e q =
    let z = rw e at q in
    (sym (ap length z ∙ length-floats s p n), z)

pub floats_at_lem : (s : List ℕ) (p n k : ℕ) → k < n → at (floats_at s p n) k ≡ float_at s (p + 8 * k)
unfolding floats_at
floats_at_lem s p zero k h = absurd (omega arith)
floats_at_lem s p (suc n) k h =
    let l = length-floats s p n in
    elim (le-or n k) [
      | inl g ↦
          let e : k ≡ n = omega arith in
          let d : k ≡ length (floats_at s p n) + 0 = omega arith in
          ap (at (floats_at s p n ++ (float_at s (p + 8 * n) ∷ []))) d ∙ get_or-append-add (floats_at s p n) (float_at s (p + 8 * n) ∷ []) 0 nan ∙ rw e
      | inr g ↦ get_or-append (floats_at s p n) (float_at s (p + 8 * n) ∷ []) nan k (omega arith) ∙ floats_at_lem s p n k g
    ]
