-- Powers of ten as f64s, the table of them, and a quotient of two whole numbers.
use Rattle.std.proofs.Common.{◌≡◌, ℕ, zero, suc, ◌+◌, ◌*◌, ◌^◌, ◌<◌, ◌≤◌, Bool, true, false, cond, eqb, List, [], ◌∷◌, get_or, ℤ, pos, sym, refl, ap, ◌∙◌, subst, true≢false, lt_of_lt_of_le, lt_of_le_of_lt, lt_irrefl, mul_assoc, mul_comm, mul-pos, pow-suc, zero-mul, mul-one, mul_right_comm, arith, lit<, pow_mono, pow-add, shl_lt, ne_eqb}
use native.Mathlib.Nat.{mul-mul-mul_comm, pow-le-pow_right, one-le-pow}
use lib.Ieee.{Float, nan, inf, fin, binary64, up, down, round, div, neg, of_int, unlike}
use lib.Ieee.Fits.{up_pos, down_pos}
use lib.Ieee.Exact.{HasValue, round_exact}
use lib.Ieee.Back.{round_whole}
use lib.Ieee.Scale.{round_same}
use Rattle.arithmetic.specs.Floats.{◌⊘◌, dec}

-- ---- 10^k is exact up to k = 22, since 5^22 < 2^53

pub factor : (k : ℕ) → 10 ^ k ≡ 5 ^ k * 2 ^ k
factor zero = refl
factor (suc k) =
    pow-suc 10 k
    ∙ ap (λ (x : ℕ). x * 10) (factor k)
    ∙ mul-mul-mul_comm (5 ^ k) (2 ^ k) 5 2
    ∙ ap (λ (x : ℕ). x * (2 ^ k * 2)) (sym (pow-suc 5 k))
    ∙ ap (λ (x : ℕ). 5 ^ suc k * x) (sym (pow-suc 2 k))

pub ten_pos : (k : ℕ) → 0 < 10 ^ k
ten_pos k = one-le-pow k 10 (lit< tt)

five-lt : (k : ℕ) → k ≤ 22 → 5 ^ k < 2 ^ 53
five-lt k h = lt_of_le_of_lt (pow-le-pow_right {n = 5} (lit< tt) h) (lit< tt)

pub ten_is : (k : ℕ) → k ≤ 22 → HasValue (dec false (10 ^ k) 0) false (10 ^ k) 1
unfolding dec
ten_is k h =
    round_exact binary64 false (10 ^ k) 1 (5 ^ k) (k + 1074) (lit< tt) (five-lt k h)
    (lt_of_lt_of_le (shl_lt 53 (k + 1074) (five-lt k h)) (pow_mono {i = 53 + (k + 1074)} {j = 2098} (omega arith)))
    (ap (λ (x : ℕ). x * 2 ^ 1074) (factor k)
    ∙ mul_assoc (5 ^ k) (2 ^ k) (2 ^ 1074)
    ∙ ap (λ (x : ℕ). 5 ^ k * x) (sym (pow-add 2 k 1074))
    ∙ sym (mul-one (5 ^ k * 2 ^ (k + 1074))))

-- ---- the table

-- 10^k and the n - 1 powers after it
abbrev powers : ℕ → ℕ → List Float
powers k zero = []
powers k (suc n) = dec false (10 ^ k) 0 ∷ powers (suc k) n

power_at : (k n i : ℕ) → i < n → get_or (powers k n) i nan ≡ dec false (10 ^ (k + i)) 0
power_at k zero i h = absurd (omega arith)
power_at k (suc n) zero h = let e : k ≡ k + 0 = omega arith in ap (λ (x : ℕ). dec false (10 ^ x) 0) e
power_at k (suc n) (suc i) h =
    let e : suc k + i ≡ k + suc i = omega arith in power_at (suc k) n i (omega arith) ∙ ap (λ (x : ℕ). dec false (10 ^ x) 0) e

pub table_at : (i : ℕ) → i < 15 → get_or (powers 0 15) i nan ≡ dec false (10 ^ i) 0
table_at i h = let e : 0 + i ≡ i = omega arith in power_at 0 15 i h ∙ ap (λ (x : ℕ). dec false (10 ^ x) 0) e

-- ---- a quotient of whole numbers, rounded once

crossed : (A B p q a b : ℕ) → A * 1 ≡ a * p → B * 1 ≡ b * q → A * q * b ≡ a * (B * p)
crossed A B p q a b h k =
    ap (λ (x : ℕ). x * q * b) (sym (mul-one A) ∙ h)
    ∙ mul_right_comm (a * p) q b
    ∙ mul_assoc (a * p) b q
    ∙ ap (λ (x : ℕ). a * p * x) (sym k ∙ mul-one B)
    ∙ mul_assoc a p B
    ∙ ap (λ (x : ℕ). a * x) (mul_comm p B)

no_zero : (n b : ℕ) (d : ℤ) → n * up d * 1 ≡ b * down d → 0 < b → n ≡ 0 → ⊥
no_zero n b d e h z =
    lt_irrefl 0
    (subst (λ (x : ℕ). 0 < x) (sym e ∙ ap (λ (x : ℕ). x * up d * 1) z ∙ mul-one (0 * up d) ∙ zero-mul (up d)) (mul-pos h (down_pos d)))

div-at : (x y : Float) (s : Bool) (a b : ℕ) → HasValue x s a 1 → HasValue y false b 1 → 0 < b → x ⊘ y ≡ round binary64 s a b
unfolding div
div-at nan y s a b v w h = absurd v
div-at (inf t) y s a b v w h = absurd v
div-at (fin t m e) nan s a b v w h = absurd w
div-at (fin t m e) (inf u) s a b v w h = absurd w
div-at (fin t m e) (fin true n d) s a b v w h = absurd (true≢false w.0)
div-at (fin t m e) (fin false n d) s a b v w h =
    let z : (n ≡ 0 → ⊥) = no_zero n b d w.1 h in
    let B : 0 < n * up d * down e = mul-pos (mul-pos (some n z) (up_pos d)) (down_pos e) in
    ap (λ (k : Bool). cond k (cond (eqb m 0) nan (inf (unlike t false))) (round binary64 (unlike t false) (m * up e * down d) (n * up d * down e))) (ne_eqb n 0 z)
    ∙ ap (λ (k : Bool). round binary64 k (m * up e * down d) (n * up d * down e)) (like t ∙ v.0)
    ∙ round_same binary64 s (m * up e * down d) (n * up d * down e) a b B h (crossed (m * up e) (n * up d) (down e) (down d) a b v.1 w.1)
  where
    like : (k : Bool) → unlike k false ≡ k
    like true = refl
    like false = refl

    some : (k : ℕ) → (k ≡ 0 → ⊥) → 0 < k
    some k z = omega arith

neg_value : (x : Float) (a : ℕ) → HasValue x false a 1 → HasValue (neg x) true a 1
unfolding neg
neg_value nan a v = v
neg_value (inf s) a v = v
neg_value (fin true m e) a v = absurd (true≢false v.0)
neg_value (fin false m e) a v = (refl, v.1)

module _ (n d : ℕ) (small : n < 10 ^ 15) (few : d < 15) where
  x : Float
  x = of_int binary64 (pos n)

  whole_is : HasValue x false n 1
  unfolding x of_int
  whole_is = round_whole binary64 false n (omega arith)

  module _ (p : Float) (e : p ≡ dec false (10 ^ d) 0) where
    pub plus_quotient : of_int binary64 (pos n) ⊘ p ≡ dec false n d
    unfolding x dec
    plus_quotient = ap (◌⊘◌ x) e ∙ div-at x (dec false (10 ^ d) 0) false n (10 ^ d) whole_is (ten_is d (omega arith)) (ten_pos d)

    pub minus_quotient : neg (of_int binary64 (pos n)) ⊘ p ≡ dec true n d
    unfolding x dec
    minus_quotient = ap (◌⊘◌ (neg x)) e ∙ div-at (neg x) (dec false (10 ^ d) 0) true n (10 ^ d) (neg_value x n whole_is) (ten_is d (omega arith)) (ten_pos d)
