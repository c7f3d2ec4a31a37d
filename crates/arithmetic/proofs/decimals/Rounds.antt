-- A decimal of at most 15 digits becomes a finite f64, at most half a unit of its last digit off.
use Rattle.std.proofs.Common.{◌≡◌, ℕ, ◌+◌, ◌-◌, ◌*◌, ◌/◌, ◌^◌, ◌<◌, ◌≤◌, Bool, sym, ap, ◌∙◌, subst, le_trans, le_of_eq, lt_of_le_of_lt, le_of_lt, mul-le-mul_right, mul_assoc, mul_comm, add-mul, mul-pos, div-le_self, le-mul_of_pos_right, le_of_mul-le-mul_right, arith, lit<, pow_pos, pow_mono, pow-add, shl_lt}
use lib.Ieee.{Float, binary64, size, round}
use lib.Ieee.Digits.{size-le}
use lib.Ieee.Fits.{round_is}
use lib.Ieee.Exact.{HasValue, units_val}
use lib.Ieee.Order.{drop, kept}
use lib.Ieee.Scale.{grid}
use Rattle.arithmetic.specs.Units.{apart}
use Rattle.arithmetic.proofs.ClosestLaws.{closest_near}

rejoined : (j k : ℕ) → k ≤ j → j - k + k ≡ j
rejoined j k h = omega arith

bound : (r n p A : ℕ) → apart r n * 2 ≤ p → n ≤ A → p ≤ A → r ≤ A + A
bound r n p A a b c = omega arith

few : (z : ℕ) → z ≤ 1124 → z - 53 ≤ 1124
few z h = omega arith

ten_15 : (n : ℕ) → n < 10 ^ 15 → n < 2 ^ 50
ten_15 n h = omega arith

-- num / den in units of 2^-1074 / den: k digits are dropped, the others kept
module _ (num den : ℕ) (D : 0 < den) where
  abbrev pub N : ℕ
  N = num * 2 ^ 1074

  abbrev pub k : ℕ
  k = drop 53 N den

  abbrev pub K : ℕ
  K = kept 53 N den

  -- the unit of the last digit that is kept
  abbrev pub u : ℕ
  u = den * 2 ^ k

  pub half-off : apart (K * u) N * 2 ≤ u
  half-off = closest_near N u (mul-pos D (pow_pos k))

  pub grid-is : grid binary64 num den * den ≡ K * u
  grid-is = mul_assoc K (2 ^ k) den ∙ ap (λ (x : ℕ). K * x) (mul_comm (2 ^ k) den)

  -- c · 2^j is a multiple of it from 2^k on
  pub wide : (c j : ℕ) → k ≤ j → c * 2 ^ j * den ≡ c * 2 ^ (j - k) * u
  wide c j h =
      ap (λ (x : ℕ). c * x * den) (ap (λ (x : ℕ). 2 ^ x) (sym (rejoined j k h)) ∙ pow-add 2 (j - k) k)
      ∙ ap (λ (x : ℕ). x * den) (sym (mul_assoc c (2 ^ (j - k)) (2 ^ k)))
      ∙ mul_assoc (c * 2 ^ (j - k)) (2 ^ k) den
      ∙ ap (λ (x : ℕ). c * 2 ^ (j - k) * x) (mul_comm (2 ^ k) den)

  pub step_is : 2 ^ (52 + k) * den ≡ 2 ^ 52 * u
  step_is = ap (λ (x : ℕ). x * den) (pow-add 2 52 k) ∙ mul_assoc (2 ^ 52) (2 ^ k) den ∙ ap (λ (x : ℕ). 2 ^ 52 * x) (mul_comm (2 ^ k) den)

  module _ (small : num < 10 ^ 15) where
    N-lt : N < 2 ^ 1124
    N-lt = shl_lt 50 1074 (ten_15 num small)

    k-le : k ≤ 1124
    k-le = few (size (N / den)) (size-le (N / den) 1124 (lt_of_le_of_lt (div-le_self N den) N-lt))

    fits_in : grid binary64 num den < 2 ^ 2098
    fits_in =
        let A = 2 ^ 1124 * den in
        let a : N ≤ A = le_trans (le_of_lt N-lt) (le-mul_of_pos_right (2 ^ 1124) D) in
        let p : u ≤ A = le_trans (le_of_eq (mul_comm den (2 ^ k))) (mul-le-mul_right den (pow_mono k-le)) in
        let b : K * u ≤ A + A = bound (K * u) N u A half-off a p in
        let c : grid binary64 num den * den ≤ (2 ^ 1124 + 2 ^ 1124) * den =
        le_trans (le_of_eq grid-is) (le_trans b (le_of_eq (sym (add-mul (2 ^ 1124) (2 ^ 1124) den)))) in
        lt_of_le_of_lt (le_of_mul-le-mul_right c D) (lit< tt)

    pub has : (s : Bool) → HasValue (round binary64 s num den) s (grid binary64 num den) (2 ^ 1074)
    has s =
        subst (λ (z : Float). HasValue z s (grid binary64 num den) (2 ^ 1074)) (sym (round_is binary64 s num den)) (units_val binary64 s K k fits_in)
