-- Differences of two natural numbers as integers, and the float that 53 digits and an exponent stand for.
use Rattle.std.proofs.Common.{◌≡◌, ℕ, zero, suc, ◌+◌, ◌-◌, ◌*◌, ◌^◌, ◌<◌, ◌≤◌, false, not, T, pos, negsuc, ◌+ℤ◌, ◌-ℤ◌, neg_ℤ, ap, ◌∙◌, inl, inr, arith, w32, SFits, to_z, of_z, le-ltb, lt-ltb}
use lib.Ieee.{binary64, minus, of_bits, odd, is_nan, nan_bits}
use lib.Ieee.Bits.{nan_bits_is}
use borrow.Author.Tests.{lt-leb}
use mir.ValLaws.{to_z-of_z, to_z_pos}
use Rattle.arithmetic.proofs.Tests.{le-or}
use Rattle.arithmetic.proofs.Powers.{of_bits_at, field_odd, minus_ge, minus-lt}

-- ---- a - l
pub sub_minus : (x l : ℕ) → pos x -ℤ pos (suc l) ≡ minus x (suc l)
sub_minus x l =
    elim (le-or (suc l) x) [
      | inl h ↦ simp (le-ltb x (suc l) h, minus_ge x (suc l) h)
      | inr h ↦ simp (lt-ltb x (suc l) h, minus-lt x (suc l) h)
    ]

pub minus-add : (a d l : ℕ) → minus a l +ℤ pos d ≡ minus (a + d) l
minus-add a d l =
    elim (le-or l a) [
      | inl h ↦
          let e : a - l + d ≡ a + d - l = omega arith in
          rw (minus_ge a l h, minus_ge (a + d) l (omega arith)) (ap pos e)
      | inr h ↦
          elim (le-or l (a + d)) [
            | inl k ↦
                let e : d - suc (l - suc a) ≡ a + d - l = omega arith in
                rw (minus-lt a l h, minus_ge (a + d) l k) (simp (le-ltb d (suc (l - suc a)) (omega arith)) (ap pos e))
            | inr k ↦
                let e : suc (l - suc a) - suc d ≡ l - suc (a + d) = omega arith in
                rw (minus-lt a l h, minus-lt (a + d) l k) (simp (lt-ltb d (suc (l - suc a)) (omega arith)) (ap negsuc e))
          ]
    ]

pub minus_suc : (a l : ℕ) → minus (suc a) (suc l) ≡ minus a l
minus_suc a l =
    elim (le-or l a) [
      | inl h ↦ let e : suc a - suc l ≡ a - l = omega arith in rw (minus_ge a l h, minus_ge (suc a) (suc l) (omega arith)) (ap pos e)
      | inr h ↦ let e : suc l - suc (suc a) ≡ l - suc a = omega arith in rw (minus-lt a l h, minus-lt (suc a) (suc l) (omega arith)) (ap negsuc e)
    ]

-- l - z below l: -z
pub minus-neg : (a z l : ℕ) → a + z ≡ l → minus a l ≡ neg_ℤ (pos z)
minus-neg a zero l h = let e : a - l ≡ 0 = omega arith in minus_ge a l (omega arith) ∙ ap pos e
minus-neg a (suc z) l h = let e : l - suc a ≡ z = omega arith in minus-lt a l (omega arith) ∙ ap negsuc e

-- ---- the difference as the machine has it
near_fits : (x l : ℕ) → x < 4096 → l < 4096 → SFits w32 (minus x l)
near_fits x l h k =
    elim (le-or l x) [
      | inl g ↦ rw (minus_ge x l g) (record { sfits = omega arith })
      | inr g ↦ rw (minus-lt x l g) (record { sfits = omega arith })
    ]

module _ (x l : ℕ) (h : x < 4096) (k : suc l < 4096) where
  pub diff_is : to_z w32 x -ℤ pos (suc l) ≡ minus x (suc l)
  diff_is = rw (to_z_pos w32 x (omega arith)) (sub_minus x l)

  pub diff_fits : SFits w32 (to_z w32 x -ℤ pos (suc l))
  diff_fits = rw diff_is (near_fits x (suc l) h k)

  pub diff_back : to_z w32 (of_z w32 (to_z w32 x -ℤ pos (suc l))) ≡ minus x (suc l)
  diff_back = to_z-of_z w32 (to_z w32 x -ℤ pos (suc l)) diff_fits ∙ diff_is

-- ---- 53 digits below an exponent's field
pub digits_bits : (q y : ℕ) → 2 ^ 52 ≤ q → q < 2 ^ 53 → y < 2046 → of_bits binary64 (q + y * 4503599627370496) ≡ odd 53 false q y 1074
digits_bits q y h k l =
    let n = q + y * 4503599627370496 in
    let e : 4503599627370496 + (q - 4503599627370496) ≡ q = omega arith in
    of_bits_at false (suc y) (q - 4503599627370496) n (lt-leb 9223372036854775808 n (omega arith)) (omega arith) (omega arith)
    ∙ field_odd false y (q - 4503599627370496) (omega arith)
    ∙ ap (λ (d : ℕ). odd 53 false d y 1074) e

odd_no_nan : (d q k l : ℕ) → T (not (is_nan (odd d false q k l)))
unfolding odd is_nan
odd_no_nan d zero k l = tt
odd_no_nan d (suc q) k l = tt

pub digits_no_nan : (q y : ℕ) → 2 ^ 52 ≤ q → q < 2 ^ 53 → y < 2046 → T (not (nan_bits binary64 (q + y * 4503599627370496)))
digits_no_nan q y h k l = rw (nan_bits_is, digits_bits q y h k l) (odd_no_nan 53 q y 1074)
