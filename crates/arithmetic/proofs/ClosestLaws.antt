-- A fraction rounded to the nearest whole number, a tie to the even one: by any quotient and remainder, how far off it is, and
-- which of its last digits count.
use Rattle.std.proofs.Common.{◌≡◌, ℕ, suc, ◌+◌, ◌*◌, ◌/◌, ◌%◌, ◌<◌, ◌≤◌, sym, ap, ◌∙◌, inl, inr, mul-le-mul_right, mod-lt, mul_assoc, suc-mul, mul_comm, add-mul, mul-pos, one-mul, div-add-mod', mul_right_comm, arith, lit<}
use Prim.Native.Nat.{compare, Ordering}
use lib.Arith.{digits_div, digits_mod}
use lib.Ieee.{nearest}
use lib.Ieee.Nearest.{closest}
use Rattle.arithmetic.specs.Units.{apart}
use Rattle.arithmetic.proofs.Tests.{le-or, Cmp, cmp, cmp-same}

-- ---- by any quotient and remainder
pub closest_by : (o : Ordering) (q r w p : ℕ) → q * p + r ≡ w → r < p → Cmp o (r * 2) p → closest w p ≡ nearest q o
closest_by o q r w p e l c =
    ap (λ (z : ℕ). closest z p) (sym e)
    ∙ ap (λ (z : ℕ). nearest z (compare ((q * p + r) % p * 2) p)) (digits_div q l)
    ∙ ap (λ (z : ℕ). nearest q (compare (z * 2) p)) (digits_mod q l)
    ∙ ap (nearest q) (cmp-same (compare (r * 2) p) o (r * 2) p (cmp (r * 2) p) c)

-- ---- at most half off, and exactly half off only at an even number
module _ (q p r w : ℕ) (e : q * p + r ≡ w) (l : r < p) where
  tie : (b : ℕ) → b < 2 → r * 2 ≡ p → apart ((q + b) * p) w * 2 ≤ p
  tie b h c =
      let m : b * p ≤ 1 * p = mul-le-mul_right p (omega arith) in
      let x = one-mul p in
      rw (add-mul q b p) (omega arith)

  near : (o : Ordering) → Cmp o (r * 2) p → apart (nearest q o * p) w * 2 ≤ p
  near Ordering.lt c = omega arith
  near Ordering.eq c = tie (q % 2) (omega arith) c
  near Ordering.gt c = rw (suc-mul q p) (omega arith)

  even : (o : Ordering) → Cmp o (r * 2) p → apart (nearest q o * p) w * 2 ≡ p → nearest q o % 2 ≡ 0
  even Ordering.lt c h = absurd (omega arith)
  even Ordering.eq c h = omega arith
  even Ordering.gt c h = let x = suc-mul q p in absurd (omega arith)

module _ (w p : ℕ) (P : 0 < p) where
  pub closest_near : apart (closest w p * p) w * 2 ≤ p
  closest_near = near (w / p) p (w % p) w (div-add-mod' w p) (mod-lt w P) (compare (w % p * 2) p) (cmp (w % p * 2) p)

  pub closest_even : apart (closest w p * p) w * 2 ≡ p → closest w p % 2 ≡ 0
  closest_even = even (w / p) p (w % p) w (div-add-mod' w p) (mod-lt w P) (compare (w % p * 2) p) (cmp (w % p * 2) p)

-- ---- no other number is both
module _ (w p : ℕ) (P : 0 < p) where
  abbrev Near : ℕ → Type 0
  Near n = (apart (n * p) w * 2 ≤ p) × (apart (n * p) w * 2 ≡ p → n % 2 ≡ 0)

  -- two numbers in order are neighbours, a half off on either side, of which one is odd
  above : (a b : ℕ) → a < b → Near a → Near b → ⊥
  above a b h x y =
      let m : suc a * p ≤ b * p = mul-le-mul_right p h in
      let n = suc-mul a p in
      let k = x.0 in
      let l = y.0 in
      let i = x.1 (omega arith) in
      let j = y.1 (omega arith) in
      let g : suc (suc a) ≤ b = omega arith in
      let o : suc (suc a) * p ≤ b * p = mul-le-mul_right p g in
      let u = suc-mul (suc a) p in
      omega arith

  pub near-once : (a b : ℕ) → Near a → Near b → a ≡ b
  near-once a b x y =
      elim (le-or (suc a) b) [
        | inl h ↦ absurd (above a b h x y)
        | inr h ↦ elim (le-or (suc b) a) [ inl g ↦ absurd (above b a g y x) | inr g ↦ omega arith ]
      ]

-- ---- the last digits of a number count only by whether one of them is set: H · B + l over B · R, and 2 · H + b over 2 · R, for
-- an even R
even_bit : (h b K : ℕ) → h * 2 + b ≡ K * 2 → b < 2 → b ≡ 0
even_bit h b K e l = omega arith

module _ (H B l b K : ℕ) (L : l < B) (small : b < 2) (none : b ≡ 0 → l ≡ 0) (some : b ≡ 1 → 0 < l) (k : 0 < K) where
  abbrev R : ℕ
  R = K * 2

  abbrev h : ℕ
  h = H % R

  abbrev w : ℕ
  w = H / R

  in_h : h < R
  in_h = mod-lt H (mul-pos k (lit< tt))

  H_is : w * R + h ≡ H
  H_is = div-add-mod' H R

  short-is : w * (R * 2) + (h * 2 + b) ≡ H * 2 + b
  short-is = let x : w * (R * 2) ≡ w * R * 2 = sym (mul_assoc w R 2) in let y = H_is in omega arith

  long-is : w * (B * R) + (h * B + l) ≡ H * B + l
  long-is =
      let x : w * (B * R) ≡ w * R * B = ap (λ (z : ℕ). w * z) (mul_comm B R) ∙ sym (mul_assoc w R B) in
      let y : w * R * B + h * B ≡ H * B = sym (add-mul (w * R) h B) ∙ ap (λ (z : ℕ). z * B) H_is in
      omega arith

  long_lt : (n c : ℕ) → suc n ≤ c → n * B + l < c * B
  long_lt n c g = let x : suc n * B ≤ c * B = mul-le-mul_right B g in let y = suc-mul n B in omega arith

  BR : B * R ≡ K * B * 2
  BR = mul_comm B R ∙ mul_right_comm K 2 B

  in_long : h * B + l < B * R
  in_long = let x = long_lt h R in_h in let y = mul_comm B R in omega arith

  lifts : (o : Ordering) → Cmp o ((h * 2 + b) * 2) (R * 2) → Cmp o ((h * B + l) * 2) (B * R)
  lifts Ordering.lt c = let x = long_lt h K (omega arith) in let y = BR in omega arith
  lifts Ordering.eq c =
      let z : b ≡ 0 = even_bit h b K (omega arith) small in
      let n = none z in
      let g : h ≡ K = omega arith in
      let x : h * B ≡ K * B = ap (λ (a : ℕ). a * B) g in
      let y = BR in
      omega arith
  lifts Ordering.gt c =
      let y = BR in
      elim (le-or (suc K) h) [
        | inl g ↦ let x : suc K * B ≤ h * B = mul-le-mul_right B g in let v = suc-mul K B in omega arith
        | inr g ↦
            let z : b ≡ 1 = omega arith in
            let n = some z in
            let x : K * B ≤ h * B = mul-le-mul_right B (omega arith) in
            omega arith
      ]

  in_short : h * 2 + b < R * 2
  in_short = let x = in_h in omega arith

  pub sticky : closest (H * B + l) (B * R) ≡ closest (H * 2 + b) (R * 2)
  sticky =
      let o = compare ((h * 2 + b) * 2) (R * 2) in
      let c = cmp ((h * 2 + b) * 2) (R * 2) in
      closest_by o w (h * B + l) (H * B + l) (B * R) long-is in_long (lifts o c)
      ∙ sym (closest_by o w (h * 2 + b) (H * 2 + b) (R * 2) short-is in_short c)
