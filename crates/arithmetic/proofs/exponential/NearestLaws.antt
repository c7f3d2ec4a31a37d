-- u + 1.5·2^52 - 1.5·2^52 is a whole number, and where u is closer to it than the margin, u moved by a half away from zero is cut
-- to it.
use Rattle.std.proofs.Common.{◌≡◌, ℕ, zero, suc, ◌+◌, ◌-◌, ◌*◌, ◌^◌, ◌<◌, ◌≤◌, Bool, true, false, cond, not, T, ltb, ◌⊎◌, ℤ, sym, refl, ap, ◌∙◌, subst, inl, inr, true≢false, lt_of_lt_of_le, mul_assoc, suc-mul, add-mul, one-mul, mul-one, mul_right_comm, arith, lit<, lit≤, ltb→lt, nltb→le, pow_pos, pow_mono, pow-add, shl_lt, lt-ltb}
use native.Mathlib.Nat.{div-eq_of_lt-le, min-eq_left}
use lib.Ieee.{Float, nan, inf, fin, binary64, up, down, round, sum, add, sub, neg, lt, le, of_int, to_signed}
use lib.Ieee.Fits.{down_pos}
use lib.Ieee.Exact.{HasValue, round_exact}
use lib.Ieee.Order.{round_mono}
use lib.Ieee.Back.{round_whole}
use Rattle.arithmetic.specs.Floats.{◌⊕◌, ◌⊖◌}
use Rattle.arithmetic.specs.Units.{signed}
use Rattle.arithmetic.specs.Steps.Nearest.{shift, nearest, margin}
use Rattle.arithmetic.proofs.Within.{Within, round-within, le→values}
use Rattle.arithmetic.proofs.exponential.Rounding.{neg-round, round-sign, small_size, minus-whole, Whole, whole-near}

-- ---- the whole number nearest to u

pub record Near (x : Float) : Type 0 where
  pub t : Bool
  pub k : ℕ
  pub value : HasValue x t k 1
  pub is : x ≡ of_int binary64 (signed t k)
  pub most : k ≤ 1001

below-shift : (w : ℕ) → w < 6755399441055744 → 6755399441054743 ≤ w → Near (round binary64 true (6755399441055744 - w) 1)
unfolding of_int
below-shift w h b = go (6755399441055744 - w) (omega arith) (omega arith)
  where
    go : (k : ℕ) → 0 < k → k ≤ 1001 → Near (round binary64 true k 1)
    go zero p q = absurd (omega arith)
    go (suc k) p q = record { t = true; k = suc k; value = round_whole binary64 true (suc k) (omega arith); is = refl; most = q }

above-shift : (w : ℕ) → 6755399441055744 ≤ w → w ≤ 6755399441056745 → Near (round binary64 false (w - 6755399441055744) 1)
unfolding of_int
above-shift w h b = record { t = false; k = w - 6755399441055744; value = round_whole binary64 false (w - 6755399441055744) (omega arith); is = refl; most = omega arith }

less-shift : (x : Float) → Whole x → Near (x ⊖ shift)
unfolding sub add neg sum
less-shift x h = subst (λ (z : Float). Near (z ⊖ shift)) (sym h.is) (rw (mul-one (h.m * 2 ^ h.k)) (go (ltb w 6755399441055744) (ltb→lt w 6755399441055744) (nltb→le w 6755399441055744)))
  where
    w : ℕ
    w = h.m * 2 ^ h.k

    go : (b : Bool) → (T b → w < 6755399441055744) → (T (not b) → 6755399441055744 ≤ w) → Near (cond b (round binary64 true (6755399441055744 - w) 1) (round binary64 false (w - 6755399441055744) 1))
    go true y n = below-shift w (y tt) h.least
    go false y n = above-shift w (n tt) h.most

with_shift : (s : Bool) (m : ℕ) (e : ℤ) → Within 1000 (fin s m e) → Whole (fin s m e ⊕ shift)
unfolding add sum
with_shift false m e h = let d = down_pos e in rw (mul-one (m * up e), mul-one (down e)) (whole-near (m * up e + 6755399441055744 * down e) (down e) d (omega arith) (omega arith))
with_shift true m e h =
    let d = down_pos e in
    rw (mul-one (m * up e), mul-one (down e), lt-ltb (m * up e) (6755399441055744 * down e) (omega arith))
    (whole-near (6755399441055744 * down e - m * up e) (down e) d (omega arith) (omega arith))

pub near : (s : Bool) (m : ℕ) (e : ℤ) → Within 1000 (fin s m e) → Near (nearest (fin s m e))
unfolding nearest
near s m e h = less-shift (fin s m e ⊕ shift) (with_shift s m e h)

-- ---- how near it is

-- a/c and k differ by less than the margin, k with the sign t and a/c with the sign s
pub record Apart (s t : Bool) (a c k : ℕ) : Type 0 where
  pub over : a * 2 ^ 30 < 536870911 * c + k * c * 2 ^ 30
  pub under : k * c * 2 ^ 30 < 536870911 * c + a * 2 ^ 30
  pub same : (k ≡ 0) ⊎ (s ≡ t)

-- a sum of unlike signs
unlike_signs : (s t : Bool) (a b c : ℕ) → 0 < c → T (lt (neg margin) (cond (ltb a b) (round binary64 t (b - a) c) (round binary64 s (a - b) c))) → T (lt (cond (ltb a b) (round binary64 t (b - a) c) (round binary64 s (a - b) c)) margin)
    → (a * 2 ^ 30 < 536870911 * c + b * 2 ^ 30) × (b * 2 ^ 30 < 536870911 * c + a * 2 ^ 30)
unlike_signs s t a b c C = go (ltb a b) (ltb→lt a b) (nltb→le a b)
  where
    go : (v : Bool) → (T v → a < b) → (T (not v) → b ≤ a) → T (lt (neg margin) (cond v (round binary64 t (b - a) c) (round binary64 s (a - b) c))) → T (lt (cond v (round binary64 t (b - a) c) (round binary64 s (a - b) c)) margin)
        → (a * 2 ^ 30 < 536870911 * c + b * 2 ^ 30) × (b * 2 ^ 30 < 536870911 * c + a * 2 ^ 30)
    go true y n p q = let l = y tt in let d = small_size t (b - a) c C p q in (omega arith, omega arith)
    go false y n p q = let l = n tt in let d = small_size s (a - b) c C p q in (omega arith, omega arith)

-- a sum of like signs is at least k
like-signs : (s : Bool) (a c k : ℕ) → 0 < c → T (lt (neg margin) (round binary64 s (a + k * c) c)) → T (lt (round binary64 s (a + k * c) c) margin) → (k ≡ 0) × (a * 2 ^ 30 < 536870911 * c)
like-signs s a c zero C p q = let d = small_size s (a + 0 * c) c C p q in (refl, omega arith)
like-signs s a c (suc k) C p q =
    let d = small_size s (a + suc k * c) c C p q in
    let m : suc k * c ≡ k * c + c = suc-mul k c in
    absurd (omega arith)

by_signs : (s t : Bool) (a c k : ℕ) → 0 < c → T (lt (neg margin) (sum binary64 s a (not t) (k * c) c)) → T (lt (sum binary64 s a (not t) (k * c) c) margin) → Apart s t a c k
unfolding sum
by_signs true true a c k C p q = let d = unlike_signs _ false a (k * c) c C p q in record { over = d.0; under = d.1; same = inr refl }
by_signs false false a c k C p q = let d = unlike_signs _ true a (k * c) c C p q in record { over = d.0; under = d.1; same = inr refl }
by_signs true false a c k C p q = let d = like-signs true a c k C p q in record { over = omega arith; under = rw d.0 (omega arith); same = inl d.0 }
by_signs false true a c k C p q = let d = like-signs false a c k C p q in record { over = omega arith; under = rw d.0 (omega arith); same = inl d.0 }

pub near_apart : (s : Bool) (m : ℕ) (e : ℤ) (x : Float) (n : Near x) → T (lt (neg margin) (fin s m e ⊖ x)) → T (lt (fin s m e ⊖ x) margin) → Apart s n.t (m * up e) (down e) n.k
near_apart s m e x n p q =
    let h = minus-whole s m e x n.t n.k n.value in
    by_signs s n.t (m * up e) (down e) n.k (down_pos e) (subst (λ (z : Float). T (lt (neg margin) z)) h p) (subst (λ (z : Float). T (lt z margin)) h q)

-- ---- what is cut from a/c moved by a half

cut_of : (m : ℕ) (e : ℤ) (k : ℕ) → k ≤ 1001 → k * down e ≤ m * up e → m * up e < (k + 1) * down e → (s : Bool) → to_signed 63 (fin s m e) ≡ signed s k
unfolding to_signed
cut_of m e k h p q true = rw (div-eq_of_lt-le {k = k} (down e) p q, min-eq_left {n = k} {m = 2 ^ 63} (omega arith)) refl
cut_of m e k h p q false = rw (div-eq_of_lt-le {k = k} (down e) p q, min-eq_left {n = k} {m = 2 ^ 63 - 1} (omega arith)) refl

-- k + 1 - 2^-30 is a float
under_next : (k : ℕ) → k ≤ 1001 → HasValue (round binary64 false (k * 2 ^ 30 + 1073741823) (2 ^ 30)) false (k * 2 ^ 30 + 1073741823) (2 ^ 30)
under_next k h =
    let n = k * 2 ^ 30 + 1073741823 in
    let b : n < 2 ^ 53 = omega arith in
    round_exact binary64 false n (2 ^ 30) n 1044 (pow_pos 30) b (lt_of_lt_of_le (shl_lt 53 1044 b) (pow_mono {i = 53 + 1044} {j = 1074 + 1024} (lit≤ tt))) (ap (λ (z : ℕ). n * z) (pow-add 2 1044 30) ∙ sym (mul_assoc n (2 ^ 1044) (2 ^ 30)))

module _ (a c k : ℕ) (C : 0 < c) (h : k ≤ 1001) (p : k * c ≤ a) (q : a * 2 ^ 30 ≤ k * c * 2 ^ 30 + 1073741823 * c) where
  cut_finite : (x : Float) → round binary64 false a c ≡ x → Within (k + 1) x → (s : Bool) → to_signed 63 (cond s (neg x) x) ≡ signed s k
  unfolding neg
  cut_finite nan r w s = absurd w
  cut_finite (inf t) r w s = absurd w
  cut_finite (fin true m e) r w s = absurd (true≢false (round-sign false a c true m e r))
  cut_finite (fin false m e) r w s =
      let n = k * 2 ^ 30 + 1073741823 in
      let l : k * down e ≤ m * up e * 1 =
      le→values (round binary64 false k 1) (fin false m e) k 1 (m * up e) (down e) (round_whole binary64 false k (omega arith)) (refl, refl)
      (subst (λ (z : Float). T (le (round binary64 false k 1) z)) r (round_mono binary64 k 1 a c (lit< tt) C (omega arith))) in
      let u : m * up e * 2 ^ 30 ≤ n * down e =
      le→values (fin false m e) (round binary64 false n (2 ^ 30)) (m * up e) (down e) n (2 ^ 30) (refl, refl) (under_next k h)
      (subst (λ (z : Float). T (le z (round binary64 false n (2 ^ 30)))) r (round_mono binary64 a c n (2 ^ 30) C (pow_pos 30) (rw (add-mul (k * 2 ^ 30) 1073741823 c, mul_right_comm k (2 ^ 30) c) q))) in
      let v : n * down e ≡ k * down e * 2 ^ 30 + 1073741823 * down e = rw (add-mul (k * 2 ^ 30) 1073741823 (down e), mul_right_comm k (2 ^ 30) (down e)) in
      let d = down_pos e in
      let o : (k + 1) * down e ≡ k * down e + down e = rw (add-mul k 1 (down e), one-mul (down e)) in
      by_sign s (cut_of m e k h (omega arith) (omega arith) s)
    where
      by_sign : (s : Bool) → to_signed 63 (fin s m e) ≡ signed s k → to_signed 63 (cond s (fin true m e) (fin false m e)) ≡ signed s k
      by_sign true z = z
      by_sign false z = z

  pub cut_rounded : (s : Bool) → to_signed 63 (round binary64 s a c) ≡ signed s k
  cut_rounded s = ap (to_signed 63) (by_sign s) ∙ cut_finite (round binary64 false a c) refl (round-within a c (k + 1) C next (omega arith) false) s
    where
      next : a ≤ (k + 1) * c
      next = rw (add-mul k 1 c, one-mul c) (omega arith)

      by_sign : (s : Bool) → round binary64 s a c ≡ cond s (neg (round binary64 false a c)) (round binary64 false a c)
      by_sign true = sym (neg-round a c)
      by_sign false = refl
