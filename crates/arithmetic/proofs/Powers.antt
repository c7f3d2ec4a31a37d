-- 2 ^ k as a float, by its bit pattern, and the sums of i64 on the way.
use Rattle.std.proofs.Common.{◌≡◌, ℕ, suc, ◌+◌, ◌-◌, ◌*◌, ◌/◌, ◌%◌, ◌<◌, ◌≤◌, Bool, true, false, ◌&&◌, T, leb, ℤ, pos, negsuc, ◌+ℤ◌, ◌-ℤ◌, nat_abs, sym, refl, ap, ◌∙◌, true≢false, arith, le→leb, leb→le, w64, SFits, to_z, of_z, ltb-true, le-ltb, lt-ltb, ne_eqb, le-leb}
use lib.Signed.{le_z, lt_z}
use lib.Count.{count_trailing_zeros}
use lib.Ieee.{Float, fin, binary64, top, hid, minus, of_bits, of_fields, odd, round}
use lib.Ieee.Fits.{and_l, and_i}
use borrow.Author.Tests.{lt-leb}
use Rattle.arithmetic.specs.Floats.{◌⊗◌, dec, one, two, half, two^}
use Rattle.arithmetic.specs.Exponential.{scaled}
use mir.ValLaws.{to_z-of_z, to_z_pos}

-- ---- 1, 2 and a half
pub one-is : one ≡ fin false 1 (pos 0)
unfolding one dec round
one-is = refl

pub two_is : two ≡ fin false 1 (pos 1)
unfolding two dec round
two_is = refl

pub half_is : half ≡ fin false 1 (negsuc 0)
unfolding half dec round
half_is = refl

-- ---- the float of a biased exponent
pub of_bits_at : (s : Bool) (e t n : ℕ) → leb (top binary64) n ≡ s → n % top binary64 / hid binary64 ≡ e → n % hid binary64 ≡ t → of_bits binary64 n ≡ of_fields binary64 s e t
unfolding of_bits
of_bits_at s e t n p q r = cc

pub field_odd : (s : Bool) (x t : ℕ) → suc x < 2047 → of_fields binary64 s (suc x) t ≡ odd 53 s (4503599627370496 + t) x 1074
unfolding of_fields
field_odd s x t h = simp (ne_eqb (suc x) 2047 (omega arith))

one_odd : (x : ℕ) → odd 53 false 4503599627370496 x 1074 ≡ fin false 1 (minus (x + 52) 1074)
unfolding odd count_trailing_zeros
one_odd x = refl

pub power_bits : (x : ℕ) → suc x < 2047 → of_bits binary64 (suc x * 4503599627370496 % 18446744073709551616) ≡ fin false 1 (minus (x + 52) 1074)
power_bits x h =
    let n = suc x * 4503599627370496 % 18446744073709551616 in
    of_bits_at false (suc x) 0 n (lt-leb 9223372036854775808 n (omega arith)) (omega arith) (omega arith)
    ∙ field_odd false x 0 h
    ∙ one_odd x

-- ---- the exponent with its bias
pub minus_ge : (a l : ℕ) → l ≤ a → minus a l ≡ pos (a - l)
minus_ge a l h = simp (le-leb l a h)

pub minus-lt : (a l : ℕ) → a < l → minus a l ≡ negsuc (l - suc a)
minus-lt a l h = simp (lt-leb l a h)

pub biased : (k : ℤ) → T (le_z (negsuc 1021) k && le_z k (pos 1023)) → (x : ℕ) × (k +ℤ pos 1023 ≡ pos (suc x)) × (suc x < 2047) × (minus (x + 52) 1074 ≡ k)
biased (pos n) h =
    let l : n ≤ 1023 = leb→le n 1023 h in
    let e : n + 1022 + 52 - 1074 ≡ n = omega arith in
    (n + 1022, ap pos (omega arith), omega arith, minus_ge (n + 1022 + 52) 1074 (omega arith) ∙ ap pos e)
biased (negsuc n) h =
    let l : n ≤ 1021 = leb→le n 1021 (and_l (leb n 1021) true h) in
    let e : 1074 - suc (1021 - n + 52) ≡ n = omega arith in
    let d : 1023 - suc n ≡ suc (1021 - n) = omega arith in
    (1021 - n, simp (le-ltb 1023 (suc n) (omega arith)) (ap pos d), omega arith, minus-lt (1021 - n + 52) 1074 (omega arith) ∙ ap negsuc e)

module _ (k : ℤ) (f : SFits w64 k) (h : T (le_z (negsuc 1021) k && le_z k (pos 1023))) where
  pub sum_is : to_z w64 (of_z w64 k) +ℤ pos 1023 ≡ pos (suc (biased k h).0)
  sum_is = rw (to_z-of_z w64 k f) (biased k h).1

  pub sum_back : to_z w64 (of_z w64 (to_z w64 (of_z w64 k) +ℤ pos 1023)) ≡ pos (suc (biased k h).0)
  sum_back = let b = (biased k h).2 in rw sum_is (to_z_pos w64 (suc (biased k h).0) (omega arith))

  pub power-is : of_bits binary64 (nat_abs (to_z w64 (of_z w64 (to_z w64 (of_z w64 k) +ℤ pos 1023))) * 4503599627370496 % 18446744073709551616) ≡ fin false 1 k
  power-is = rw sum_back (power_bits (biased k h).0 (biased k h).2 ∙ ap (fin false 1) (biased k h).3)

-- ---- the three cases of y · 2^k
abbrev pub Near : ℤ → Type 0
Near k = T (le_z (negsuc 1499) k && le_z k (pos 1500))

abbrev pub Normal : ℤ → Type 0
Normal k = T (le_z (negsuc 1021) k && le_z k (pos 1023)) × SFits w64 k

normal_pos : (n : ℕ) → n ≤ 1023 → Normal (pos n)
normal_pos n h = (le→leb n 1023 h, record { sfits = omega arith })

normal_neg : (n : ℕ) → n ≤ 1021 → Normal (negsuc n)
normal_neg n h = (and_i (leb n 1021) true (le→leb n 1021 h) tt, record { sfits = omega arith })

pub over : (k : ℤ) → Near k → lt_z (pos 1023) k ≡ true → Normal (k -ℤ pos 1023)
over (pos m) r t =
    let a : 1023 < m = ltb-true 1023 m t in
    let b : m ≤ 1500 = leb→le m 1500 r in
    simp (le-ltb m 1023 (omega arith)) (normal_pos (m - 1023) (omega arith))
over (negsuc m) r t = absurd (true≢false (sym t))

pub under : (k : ℤ) → Near k → lt_z k (negsuc 1021) ≡ true → Normal (k +ℤ pos 1000)
under (pos m) r t = absurd (true≢false (sym t))
under (negsuc m) r t =
    let a : 1021 < m = ltb-true 1021 m t in
    let b : m ≤ 1499 = leb→le m 1499 (and_l (leb m 1499) true r) in
    simp (lt-ltb 1000 (suc m) (omega arith)) (normal_neg (suc m - 1001) (omega arith))

pub scaled-over : (y p q : Float) (k : ℤ) → lt_z (pos 1023) k ≡ true → p ≡ two^ (pos 1023) → q ≡ two^ (k -ℤ pos 1023) → y ⊗ p ⊗ q ≡ scaled y k
unfolding scaled
scaled-over y p q k t e d = rw (e, d, t)

pub scaled_under : (y p q : Float) (k : ℤ) → lt_z (pos 1023) k ≡ false → lt_z k (negsuc 1021) ≡ true → p ≡ two^ (k +ℤ pos 1000) → q ≡ two^ (negsuc 999) → y ⊗ p ⊗ q ≡ scaled y k
unfolding scaled
scaled_under y p q k t s e d = rw (e, d, t, s)

pub scaled-within : (y p : Float) (k : ℤ) → lt_z (pos 1023) k ≡ false → lt_z k (negsuc 1021) ≡ false → p ≡ two^ k → y ⊗ p ≡ scaled y k
unfolding scaled
scaled-within y p k t s e = rw (e, t, s)
