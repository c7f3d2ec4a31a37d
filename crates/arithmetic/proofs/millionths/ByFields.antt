-- What an f64 shows, by the fields of its bits.
use Rattle.std.proofs.Common.{◌≡◌, ℕ, zero, suc, ◌+◌, ◌-◌, ◌*◌, ◌/◌, ◌%◌, ◌^◌, ◌<◌, ◌≤◌, Bool, true, false, cond, T, leb, pos, sym, refl, ap, ◌∙◌, inl, inr, le_trans, le_of_eq, lt_of_lt_of_le, le-add_right, lt_of_le_of_lt, mul-le-mul_right, mul_assoc, lt_of_mul-lt-mul_right, mul-lt-mul_of_pos_right, zero-add, zero-mul, mul-one, mul_right_comm, le_of_mul-le-mul_right, arith, lit≤, pow_pos, pow_mono, pow-add, shl_lt, ne_eqb, le-leb}
use Prim.Native.Nat.{Ordering}
use lib.Ieee.{Float, nan, inf, fin, binary64, up, down, of_fields, of_bits, to_bits, fits}
use lib.Ieee.Fits.{down_pos}
use lib.Ieee.Bits.{of_bits-to_bits}
use lib.Ieee.Exact.{HasValue, odd_sign}
use lib.Ieee.Nearest.{closest, closest_same}
use borrow.Author.Tests.{lt-leb}
use Rattle.arithmetic.specs.Units.{signed}
use Rattle.arithmetic.specs.Millionths.{millionths_of}
use Rattle.arithmetic.specs.Refusals.{Value, Refused}
use Rattle.arithmetic.proofs.Tests.{le-or}
use Rattle.arithmetic.proofs.Powers.{field_odd}
use Rattle.arithmetic.proofs.ClosestLaws.{closest_by}

-- ---- by any fraction a / U that the value is
same_test : (x d a U : ℕ) → 0 < d → 0 < U → x * U ≡ a * d → leb (2048 * d) x ≡ leb (2048 * U) a
same_test x d a U D W e =
    elim (le-or (2048 * d) x) [
      | inl g ↦
          le-leb (2048 * d) x g
          ∙ sym (le-leb (2048 * U) a (le_of_mul-le-mul_right (le_trans (le_of_eq (mul_right_comm 2048 U d)) (le_trans (mul-le-mul_right U g) (le_of_eq e))) D))
      | inr g ↦
          lt-leb (2048 * d) x g
          ∙ sym (lt-leb (2048 * U) a (lt_of_mul-lt-mul_right d (lt_of_le_of_lt (le_of_eq (sym e)) (lt_of_lt_of_le (mul-lt-mul_of_pos_right g W) (le_of_eq (mul_right_comm 2048 d U))))))
    ]

of_value : (v : Float) (s : Bool) (a U : ℕ) → 0 < U → HasValue v s a U → millionths_of v ≡ cond (leb (2048 * U) a) (Refused 11) (Value (signed s (closest (a * 1000000) U)))
unfolding millionths_of
of_value nan s a U W h = absurd h
of_value (inf t) s a U W h = absurd h
of_value (fin t m e) s a U W h =
    let x = m * up e in
    let d = down e in
    let k : closest (x * 1000000) d ≡ closest (a * 1000000) U = closest_same (x * 1000000) d (a * 1000000) U (down_pos e) W (mul_right_comm x 1000000 U ∙ ap (λ (z : ℕ). z * 1000000) h.1 ∙ mul_right_comm a d 1000000) in
    ap (λ (z : Bool). cond (leb (2048 * d) x) (Refused 11) (Value (signed z (closest (x * 1000000) d)))) h.0
    ∙ ap (λ (z : ℕ). cond (leb (2048 * d) x) (Refused 11) (Value (signed s z))) k
    ∙ ap (λ (z : Bool). cond z (Refused 11) (Value (signed s (closest (a * 1000000) U)))) (same_test x d a U (down_pos e) W h.1)

module _ (v : Float) (s : Bool) (a U : ℕ) (W : 0 < U) (h : HasValue v s a U) where
  large : 2048 * U ≤ a → millionths_of v ≡ Refused 11
  large g = of_value v s a U W h ∙ rw (le-leb (2048 * U) a g)

  small : a < 2048 * U → millionths_of v ≡ Value (signed s (closest (a * 1000000) U))
  small g = of_value v s a U W h ∙ rw (lt-leb (2048 * U) a g)

-- ---- the value of the fields
fields-low : (s : Bool) (t : ℕ) → HasValue (of_fields binary64 s 0 t) s (t * 2 ^ 0) (2 ^ 1074)
unfolding of_fields
fields-low s t = odd_sign 53 s t 0 1074

fields_mid : (s : Bool) (x t : ℕ) → suc x < 2047 → HasValue (of_fields binary64 s (suc x) t) s ((4503599627370496 + t) * 2 ^ x) (2 ^ 1074)
fields_mid s x t h = rw (field_odd s x t h) (odd_sign 53 s (4503599627370496 + t) x 1074)

fields_top : (s : Bool) (t : ℕ) → millionths_of (of_fields binary64 s 2047 t) ≡ Refused 11
unfolding of_fields millionths_of
fields_top s zero = refl
fields_top s (suc t) = rw (ne_eqb (suc t) 0 (omega arith))

-- ---- from 2048 on
two_11 : 2048 * 2 ^ 1074 ≡ 2 ^ 1085
two_11 = refl

from-high : (x t : ℕ) → 1033 ≤ x → 2 ^ 1085 ≤ (4503599627370496 + t) * 2 ^ x
from-high x t h =
    le_trans (pow_mono {i = 1085} {j = 52 + x} (omega arith))
    (le_trans (le_of_eq (pow-add 2 52 x)) (mul-le-mul_right (2 ^ x) (le-add_right 4503599627370496 t)))

pub at_high : (s : Bool) (X t : ℕ) → 1034 ≤ X → X ≤ 2047 → millionths_of (of_fields binary64 s X t) ≡ Refused 11
at_high s zero t h k = absurd (omega arith)
at_high s (suc x) t h k =
    elim (le-or 2047 (suc x)) [
      | inl g ↦ let e : suc x ≡ 2047 = omega arith in ap (λ (z : ℕ). millionths_of (of_fields binary64 s z t)) e ∙ fields_top s t
      | inr g ↦
          large (of_fields binary64 s (suc x) t) s ((4503599627370496 + t) * 2 ^ x) (2 ^ 1074) (pow_pos 1074) (fields_mid s x t g)
          (le_trans (le_of_eq two_11) (from-high x t (omega arith)))
    ]

-- ---- below 2^-23, where 10^6 times it is less than a half
no_sign : (s : Bool) → signed s 0 ≡ pos 0
no_sign true = refl
no_sign false = refl

module _ (s : Bool) (v : Float) (a : ℕ) (h : a < 2 ^ 1051) (val : HasValue v s a (2 ^ 1074)) where
  tiny-lt : (c U : ℕ) → a < c → c * 8388608 ≡ U → a * 1000000 * 2 < U
  tiny-lt c U h e = omega arith

  tiny-under : (c U : ℕ) → a < c → c * 8388608 ≡ U → a < 2048 * U
  tiny-under c U h e = omega arith

  tiny_in : (n U : ℕ) → n * 2 < U → n < U
  tiny_in n U h = omega arith

  half_not_reached : a * 1000000 * 2 < 2 ^ 1074
  half_not_reached = tiny-lt (2 ^ 1051) (2 ^ 1074) h refl

  nothing : closest (a * 1000000) (2 ^ 1074) ≡ 0
  nothing =
      closest_by Ordering.lt 0 (a * 1000000) (a * 1000000) (2 ^ 1074)
      (ap (λ (y : ℕ). y + a * 1000000) (zero-mul (2 ^ 1074)) ∙ zero-add (a * 1000000))
      (tiny_in (a * 1000000) (2 ^ 1074) half_not_reached)
      half_not_reached

  tiny : Value (pos 0) ≡ millionths_of v
  tiny =
      sym
      (small v s a (2 ^ 1074) (pow_pos 1074) val (tiny-under (2 ^ 1051) (2 ^ 1074) h refl)
      ∙ ap (λ (y : ℕ). Value (signed s y)) nothing
      ∙ ap Value (no_sign s))

under_53 : (t : ℕ) → t < 4503599627370496 → 4503599627370496 + t < 9007199254740992
under_53 t h = omega arith

pub at_low : (s : Bool) (X t : ℕ) → X < 1000 → t < 4503599627370496 → Value (pos 0) ≡ millionths_of (of_fields binary64 s X t)
at_low s zero t h k = tiny s (of_fields binary64 s 0 t) (t * 2 ^ 0) (lt_of_lt_of_le (lt_of_le_of_lt (le_of_eq (mul-one t)) k) (lit≤ tt)) (fields-low s t)
at_low s (suc x) t h k =
    tiny s (of_fields binary64 s (suc x) t) ((4503599627370496 + t) * 2 ^ x)
    (lt_of_lt_of_le (shl_lt 53 x (under_53 t k)) (pow_mono {i = 53 + x} {j = 1051} (omega arith)))
    (fields_mid s x t (omega arith))

-- ---- between the two: q·2^x / 2^1074 is q / 2^d
pub at_mid : (s : Bool) (X t : ℕ) → 1000 ≤ X → X < 1034 → t < 4503599627370496
    → millionths_of (of_fields binary64 s X t) ≡ Value (signed s (closest ((t + 4503599627370496) * 1000000) (2 ^ (1075 - X))))
at_mid s zero t h k l = absurd (omega arith)
at_mid s (suc x) t h k l =
    let q = 4503599627370496 + t in
    let a = q * 2 ^ x in
    let d = 1075 - suc x in
    let j : x + d ≡ 1074 = omega arith in
    let e : a * 1000000 * 2 ^ d ≡ q * 1000000 * 2 ^ 1074 =
    ap (λ (z : ℕ). z * 2 ^ d) (mul_right_comm q (2 ^ x) 1000000) ∙ mul_assoc (q * 1000000) (2 ^ x) (2 ^ d) ∙ ap (λ (z : ℕ). q * 1000000 * z) (sym (pow-add 2 x d) ∙ ap (λ (z : ℕ). 2 ^ z) j) in
    let c : q ≡ t + 4503599627370496 = omega arith in
    small (of_fields binary64 s (suc x) t) s a (2 ^ 1074) (pow_pos 1074) (fields_mid s x t (omega arith))
    (lt_of_lt_of_le (shl_lt 53 x (under_53 t l)) (le_trans (pow_mono {i = 53 + x} {j = 1085} (omega arith)) (le_of_eq (sym two_11))))
    ∙ ap (λ (z : ℕ). Value (signed s z)) (closest_same (a * 1000000) (2 ^ 1074) (q * 1000000) (2 ^ d) (pow_pos 1074) (pow_pos d) e)
    ∙ ap (λ (z : ℕ). Value (signed s (closest (z * 1000000) (2 ^ d)))) c

-- ---- the fields of an f64
pub fields_of : (v : Float) → T (fits binary64 v) → of_fields binary64 (leb 9223372036854775808 (to_bits binary64 v)) (to_bits binary64 v % 9223372036854775808 / 4503599627370496) (to_bits binary64 v % 4503599627370496) ≡ v
unfolding of_bits
fields_of v t = of_bits-to_bits binary64 v t
