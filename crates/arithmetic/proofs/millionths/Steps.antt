-- What rounded, in_millionths and millionths work out, over whole numbers.
use Rattle.std.proofs.Common.{◌≡◌, ℕ, zero, suc, ◌+◌, ◌-◌, ◌*◌, ◌/◌, ◌%◌, ◌^◌, ◌<◌, ◌≤◌, Bool, true, false, T, leb, ℤ, pos, negsuc, ◌-ℤ◌, neg_ℤ, sym, refl, ap, ◌∙◌, subst, mod-lt, one-mul, div-add-mod', div-le_self, arith, lit<, pow_pos, pow-add, shl_exact, w64, SFits, to_z, of_z, lt-ltb, le-leb}
use Prim.Native.Nat.{Ordering}
use lib.Ieee.{Float, binary64, fits, to_bits, nearest}
use lib.Ieee.Fits.{nearest-le}
use lib.Ieee.Nearest.{closest}
use mir.ValLaws.{to_z_pos, to_z-of_z}
use borrow.Author.Tests.{lt-leb}
use Rattle.arithmetic.specs.Units.{signed}
use Rattle.arithmetic.specs.Millionths.{millionths_of}
use Rattle.arithmetic.specs.Refusals.{Value, Refused}
use Rattle.arithmetic.proofs.Tests.{Cmp}
use Rattle.arithmetic.proofs.ClosestLaws.{closest_by, sticky}
use Rattle.arithmetic.proofs.millionths.ByFields.{at_high, at_low, at_mid, fields_of}

-- ---- rounded

-- 1 << s
pub power : (s : ℕ) → s < 51 → 1 * 2 ^ s % 18446744073709551616 ≡ 2 ^ s
power s h = let l : 1 + s ≤ 64 = omega arith in shl_exact {a = 1} 1 s 64 (lit< tt) l ∙ one-mul (2 ^ s)

pub power_pos : (s : ℕ) → s < 51 → 0 < 1 * 2 ^ s % 18446744073709551616
power_pos s h = subst (λ (x : ℕ). 0 < x) (sym (power s h)) (pow_pos s)

pub rounds : (o : Ordering) (n s : ℕ) → n < 1125899906842624 → s < 51
    → let p = 1 * 2 ^ s % 18446744073709551616 in Cmp o (n % p * 2) p → (nearest (n / p) o ≡ closest n (2 ^ s)) × (nearest (n / p) o ≤ 1125899906842624)
rounds o n s N S c =
    let p = 1 * 2 ^ s % 18446744073709551616 in
    let l = div-le_self n p in
    let m = nearest-le (n / p) o in
    (sym (closest_by o (n / p) (n % p) n p (div-add-mod' n p) (mod-lt n (power_pos s S)) c) ∙ ap (closest n) (power s S), omega arith)

-- ---- in_millionths
module _ (q d b : ℕ) (D : 42 ≤ d) where
  abbrev low : ℕ
  low = q % 67108864 * 1000000

  abbrev high : ℕ
  high = q / 67108864 * 1000000 + low / 67108864

  product : q * 1000000 ≡ high * 67108864 + low % 67108864
  product = omega arith

  abbrev K : ℕ
  K = 2 ^ (d - 27)

  long : 67108864 * (K * 2) ≡ 2 ^ d
  long =
      let e : 27 + (d - 27) ≡ d = omega arith in
      let x : 67108864 * (K * 2) ≡ 134217728 * K = omega arith in
      x ∙ sym (pow-add 2 27 (d - 27)) ∙ ap (λ (z : ℕ). 2 ^ z) e

  short : K * 2 * 2 ≡ 2 ^ (d - 25)
  short =
      let e : 2 + (d - 27) ≡ d - 25 = omega arith in
      let x : K * 2 * 2 ≡ 4 * K = omega arith in
      x ∙ sym (pow-add 2 2 (d - 27)) ∙ ap (λ (z : ℕ). 2 ^ z) e

  pub split : b < 2 → (b ≡ 0 → low % 67108864 ≡ 0) → (b ≡ 1 → 0 < low % 67108864) → closest (high * 2 + b) (2 ^ (d - 25)) ≡ closest (q * 1000000) (2 ^ d)
  split small none some =
      ap (closest (high * 2 + b)) (sym short)
      ∙ sym (sticky high 67108864 (low % 67108864) b K (omega arith) small none some (pow_pos (d - 27)))
      ∙ ap (closest (high * 67108864 + low % 67108864)) long
      ∙ ap (λ (z : ℕ). closest z (2 ^ d)) (sym product)

pub no_rest : (q d : ℕ) → 42 ≤ d → q % 67108864 * 1000000 % 67108864 ≡ 0
    → closest ((q / 67108864 * 1000000 + q % 67108864 * 1000000 / 67108864) * 2) (2 ^ (d - 25)) ≡ closest (q * 1000000) (2 ^ d)
no_rest q d D z =
    let n = (q / 67108864 * 1000000 + q % 67108864 * 1000000 / 67108864) * 2 in
    let e : n ≡ n + 0 = omega arith in
    ap (λ (x : ℕ). closest x (2 ^ (d - 25))) e ∙ split q d 0 D (lit< tt) (λ k. z) (λ k. absurd (omega arith))

pub a-rest : (q d : ℕ) → 42 ≤ d → (q % 67108864 * 1000000 % 67108864 ≡ 0 → ⊥)
    → closest ((q / 67108864 * 1000000 + q % 67108864 * 1000000 / 67108864) * 2 + 1) (2 ^ (d - 25)) ≡ closest (q * 1000000) (2 ^ d)
a-rest q d D z = split q d 1 D (lit< tt) (λ k. absurd (omega arith)) (λ k. omega arith)

-- ---- millionths
in_exp : (b : ℕ) → b % 9223372036854775808 / 4503599627370496 ≤ 2047
in_exp b = omega arith

in_digits : (b : ℕ) → b % 4503599627370496 < 4503599627370496
in_digits b = omega arith

module _ (v : Float) (F : T (fits binary64 v)) where
  abbrev b : ℕ
  b = to_bits binary64 v

  abbrev X : ℕ
  X = b % 9223372036854775808 / 4503599627370496

  pub refused : 1034 ≤ X → Refused 11 ≡ millionths_of v
  refused h = sym (at_high (leb 9223372036854775808 b) X (b % 4503599627370496) h (in_exp b)) ∙ ap millionths_of (fields_of v F)

  pub none : X < 1000 → Value (pos 0) ≡ millionths_of v
  none h = at_low (leb 9223372036854775808 b) X (b % 4503599627370496) h (in_digits b) ∙ ap millionths_of (fields_of v F)

  shown : (s : Bool) (n : ℕ) → 1000 ≤ X → X < 1034 → leb 9223372036854775808 b ≡ s → n ≡ closest ((b % 4503599627370496 + 4503599627370496) * 1000000) (2 ^ (1075 - X)) → Value (signed s n) ≡ millionths_of v
  shown s n h k e c =
      ap (λ (z : ℕ). Value (signed s z)) c
      ∙ ap (λ (z : Bool). Value (signed z (closest ((b % 4503599627370496 + 4503599627370496) * 1000000) (2 ^ (1075 - X))))) (sym e)
      ∙ sym (at_mid (leb 9223372036854775808 b) X (b % 4503599627370496) h k (in_digits b))
      ∙ ap millionths_of (fields_of v F)

  module _ (n : ℕ) (h : 1000 ≤ X) (k : X < 1034) (c : n ≡ closest ((b % 4503599627370496 + 4503599627370496) * 1000000) (2 ^ (1075 - X))) (N : n ≤ 1125899906842624) where
    fit : n < 9223372036854775808
    fit = omega arith

    is : to_z w64 n ≡ pos n
    is = to_z_pos w64 n fit

    pub positive : b < 9223372036854775808 → Value (to_z w64 n) ≡ millionths_of v
    positive l = ap Value is ∙ shown false n h k (lt-leb 9223372036854775808 b l) c

    pub negative : 9223372036854775808 ≤ b → Value (neg_ℤ (pos n)) ≡ millionths_of v
    negative l = shown true n h k (le-leb 9223372036854775808 b l) c

-- 0 - n
from_zero : (n : ℕ) → pos 0 -ℤ pos n ≡ neg_ℤ (pos n)
from_zero zero = refl
from_zero (suc n) = simp (lt-ltb 0 (suc n) (omega arith)) (let e : suc n - 1 ≡ n = omega arith in ap negsuc e)

module _ (n : ℕ) (N : n ≤ 1125899906842624) where
  neg-fits : (k : ℕ) → k < 9223372036854775808 → SFits w64 (neg_ℤ (pos k))
  neg-fits zero l = record { sfits = lit< tt }
  neg-fits (suc k) l = record { sfits = omega arith }

  less-is : to_z w64 0 -ℤ to_z w64 n ≡ neg_ℤ (pos n)
  less-is = ap (λ (z : ℤ). pos 0 -ℤ z) (to_z_pos w64 n (omega arith)) ∙ from_zero n

  pub less-fits : SFits w64 (to_z w64 0 -ℤ to_z w64 n)
  less-fits = subst (λ (z : ℤ). SFits w64 z) (sym less-is) (neg-fits n (omega arith))

  pub less-back : to_z w64 (of_z w64 (to_z w64 0 -ℤ to_z w64 n)) ≡ neg_ℤ (pos n)
  less-back = to_z-of_z w64 (to_z w64 0 -ℤ to_z w64 n) less-fits ∙ less-is
