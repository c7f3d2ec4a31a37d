-- Rounding and signs, sums that are scaled, and what is rounded near 1.5·2^52.
use Rattle.std.proofs.Common.{◌≡◌, ℕ, zero, suc, ◌+◌, ◌-◌, ◌*◌, ◌%◌, ◌^◌, ◌<◌, ◌≤◌, Bool, true, false, cond, not, ◌&&◌, T, eqb, ltb, leb, ℤ, pos, negsuc, sym, refl, ap, ◌∙◌, subst, mul-le-mul_right, mul_assoc, mul_comm, add-mul, add_comm, mul-lt-mul_of_pos_right, mul-pos, mul-one, mul_right_comm, arith, lit<, lit≤, ltb→lt, nltb→le, pow_pos, le-ltb, lt-ltb}
use native.Mathlib.Nat.{mul-sub, pow-succ'}
use lib.Ieee.{Float, nan, inf, fin, binary64, up, down, low, emax, prec, round, units, odd, sum, add, sub, neg, lt, le, fits}
use lib.Ieee.Fits.{round_is, round-fits, down_pos}
use lib.Ieee.Exact.{HasValue, odd_sign}
use lib.Ieee.Order.{round_mono, kept, drop}
use lib.Ieee.Scale.{round_same}
use lib.Ieee.Back.{round_whole}
use lib.Ieee.Positive.{num, den, positive, own_value, positive_of_value, above_of_le, between, values_of_le}
use Rattle.arithmetic.specs.Floats.{◌⊖◌}
use Rattle.arithmetic.specs.Steps.Nearest.{margin}
use Rattle.arithmetic.proofs.Within.{le→fractions}

-- ---- signs

neg_odd : (d q k l : ℕ) → neg (odd d false q k l) ≡ odd d true q k l
unfolding odd neg
neg_odd d zero k l = refl
neg_odd d (suc q) k l = refl

neg-units : (q k : ℕ) → neg (units binary64 false q k) ≡ units binary64 true q k
unfolding units neg
neg-units q k = go (ltb (q * 2 ^ k) (2 ^ (low binary64 + suc (emax binary64))))
  where
    go : (b : Bool) → neg (cond b (odd (suc (prec binary64)) false q k (low binary64)) (inf false)) ≡ cond b (odd (suc (prec binary64)) true q k (low binary64)) (inf true)
    go true = neg_odd (suc (prec binary64)) q k (low binary64)
    go false = refl

pub neg-round : (a c : ℕ) → neg (round binary64 false a c) ≡ round binary64 true a c
neg-round a c = ap neg (round_is binary64 false a c) ∙ neg-units _ _ ∙ sym (round_is binary64 true a c)

lt-neg : (x y : Float) → lt (neg x) (neg y) ≡ lt y x
unfolding lt neg
lt-neg nan nan = refl
lt-neg nan (inf t) = refl
lt-neg nan (fin t n d) = refl
lt-neg (inf true) nan = refl
lt-neg (inf false) nan = refl
lt-neg (inf true) (inf true) = refl
lt-neg (inf true) (inf false) = refl
lt-neg (inf false) (inf true) = refl
lt-neg (inf false) (inf false) = refl
lt-neg (inf true) (fin t n d) = refl
lt-neg (inf false) (fin t n d) = refl
lt-neg (fin s m e) nan = refl
lt-neg (fin s m e) (inf true) = refl
lt-neg (fin s m e) (inf false) = refl
lt-neg (fin true m e) (fin true n d) = refl
lt-neg (fin true m e) (fin false n d) = refl
lt-neg (fin false m e) (fin true n d) = ap (ltb 0) (add_comm (m * up e * down d) (n * up d * down e))
lt-neg (fin false m e) (fin false n d) = refl

-- a rounded number has the sign that it was given
pub round-sign : (s : Bool) (a c : ℕ) (t : Bool) (m : ℕ) (e : ℤ) → round binary64 s a c ≡ fin t m e → t ≡ s
unfolding units
round-sign s a c t m e h = by_units (kept 53 (a * 2 ^ 1074) c) (drop 53 (a * 2 ^ 1074) c) (sym (round_is binary64 s a c) ∙ h)
  where
    value : (x : Float) (g l : ℕ) → HasValue x s g l → x ≡ fin t m e → t ≡ s
    value x g l v q = (subst (λ (z : Float). HasValue z s g l) q v).0

    by_units : (q k : ℕ) → units binary64 s q k ≡ fin t m e → t ≡ s
    by_units q k = go (ltb (q * 2 ^ k) (2 ^ (low binary64 + suc (emax binary64))))
      where
        finite : Float → Bool
        finite nan = false
        finite (inf s) = false
        finite (fin s m e) = true

        go : (b : Bool) → cond b (odd (suc (prec binary64)) s q k (low binary64)) (inf s) ≡ fin t m e → t ≡ s
        go true h = value _ _ _ (odd_sign (suc (prec binary64)) s q k (low binary64)) h
        go false h = absurd (subst (λ (z : Float). T (finite z)) (sym h) tt)

-- ---- what rounds to less than the margin is less than it

margin-is : round binary64 false 536870911 (2 ^ 30) ≡ margin
unfolding round
margin-is = refl

clash : (x : Float) → T (lt x margin) → T (le margin x) → ⊥
unfolding lt
clash nan a b = a
clash (inf true) a b = above_of_le margin (inf true) tt b
clash (inf false) a b = a
clash (fin true m e) a b = above_of_le margin (fin true m e) tt b
clash (fin false m e) a b =
    let p : m * up e * 2 ^ 30 < 536870911 * 1 * down e = ltb→lt (m * up e * 2 ^ 30) (536870911 * 1 * down e) a in
    let q : 536870911 * 1 * down e ≤ m * up e * 2 ^ 30 = le→fractions 536870911 m (negsuc 29) e b in
    omega arith

small : (a c : ℕ) → 0 < c → T (lt (round binary64 false a c) margin) → a * 2 ^ 30 < 536870911 * c
small a c C h = go (ltb (a * 2 ^ 30) (536870911 * c)) (ltb→lt (a * 2 ^ 30) (536870911 * c)) (nltb→le (a * 2 ^ 30) (536870911 * c))
  where
    go : (b : Bool) → (T b → a * 2 ^ 30 < 536870911 * c) → (T (not b) → 536870911 * c ≤ a * 2 ^ 30) → a * 2 ^ 30 < 536870911 * c
    go true y n = y tt
    go false y n =
        absurd (clash (round binary64 false a c) h
        (subst (λ (z : Float). T (le z (round binary64 false a c))) margin-is (round_mono binary64 536870911 (2 ^ 30) a c (pow_pos 30) C (n tt))))

-- with either sign
pub small_size : (s : Bool) (a c : ℕ) → 0 < c → T (lt (neg margin) (round binary64 s a c)) → T (lt (round binary64 s a c) margin) → a * 2 ^ 30 < 536870911 * c
small_size false a c C p q = small a c C q
small_size true a c C p q =
    small a c C (subst T (lt-neg margin (round binary64 false a c)) (subst (λ (z : Float). T (lt (neg margin) z)) (sym (neg-round a c)) p))

-- ---- a sum of scaled fractions

ltb-scale : (q a b : ℕ) → 0 < q → ltb (a * q) (b * q) ≡ ltb a b
ltb-scale q a b Q = go (ltb a b) (ltb→lt a b) (nltb→le a b)
  where
    go : (t : Bool) → (T t → a < b) → (T (not t) → b ≤ a) → ltb (a * q) (b * q) ≡ t
    go true y n = lt-ltb (a * q) (b * q) (mul-lt-mul_of_pos_right (y tt) Q)
    go false y n = le-ltb (a * q) (b * q) (mul-le-mul_right q (n tt))

round-scale : (s : Bool) (a c q : ℕ) → 0 < c → 0 < q → round binary64 s (a * q) (c * q) ≡ round binary64 s a c
round-scale s a c q C Q = round_same binary64 s (a * q) (c * q) a c (mul-pos C Q) C (mul_assoc a q c ∙ ap (λ (z : ℕ). a * z) (mul_comm q c))

sub_scale : (a b q : ℕ) → a * q - b * q ≡ (a - b) * q
sub_scale a b q = rw (mul_comm a q, mul_comm b q, ← mul-sub q a b, mul_comm q (a - b))

pub sum-scale : (s t : Bool) (a b c q : ℕ) → 0 < c → 0 < q → sum binary64 s (a * q) t (b * q) (c * q) ≡ sum binary64 s a t b c
unfolding sum
sum-scale s t a b c q C Q = rw (ltb-scale q a b Q, ltb-scale q b a Q, ← add-mul a b q, sub_scale a b q, sub_scale b a q, round-scale s (a + b) c q C Q, round-scale t (b - a) c q C Q, round-scale (s && ltb b a) (a - b) c q C Q)

-- a float less a whole number
pub minus-whole : (s : Bool) (m : ℕ) (e : ℤ) (x : Float) (t : Bool) (k : ℕ) → HasValue x t k 1 → fin s m e ⊖ x ≡ sum binary64 s (m * up e) (not t) (k * down e) (down e)
unfolding sub add neg
minus-whole s m e nan t k v = absurd v
minus-whole s m e (inf u) t k v = absurd v
minus-whole s m e (fin u n d) t k v =
    let w : n * up d * down e ≡ k * down e * down d = ap (λ (z : ℕ). z * down e) (sym (mul-one (n * up d)) ∙ v.1) ∙ mul_right_comm k (down d) (down e) in
    rw (v.0, w) (sum-scale s (not t) (m * up e) (k * down e) (down e) (down d) (down_pos e) (down_pos d))

-- ---- what is rounded near 1.5·2^52 is a whole number

pub record Whole (x : Float) : Type 0 where
  pub m : ℕ
  pub k : ℕ
  pub is : x ≡ fin false m (pos k)
  pub least : 6755399441054743 ≤ m * 2 ^ k
  pub most : m * 2 ^ k ≤ 6755399441056745

second_of : (a b c d : Bool) → T (a && b && c && d) → T b
second_of true true c d t = tt
second_of true false c d t = absurd t
second_of false b c d t = absurd t

digits : (m : ℕ) (e : ℤ) → T (fits binary64 (fin false m e)) → T (ltb 0 m) → m < 2 ^ 53
unfolding fits
digits zero e f p = absurd p
digits (suc m) e f p =
    ltb→lt (suc m) (2 ^ 53)
    (second_of (eqb (suc m % 2) 1) (ltb (suc m) (2 ^ 53)) (leb (down e) (2 ^ 1074)) (ltb (suc m * up e) (2 ^ 1024 * down e)) f)

whole_of : (x : Float) → T (fits binary64 x) → T (positive x) → 6755399441054743 * den x ≤ num x * 1 → num x * 1 ≤ 6755399441056745 * den x → Whole x
whole_of nan f p a b = absurd p
whole_of (inf s) f p a b = absurd p
whole_of (fin true m e) f p a b = absurd p
whole_of (fin false m (pos k)) f p a b = record { m = m; k = k; is = refl; least = omega arith; most = omega arith }
whole_of (fin false m (negsuc k)) f p a b =
    let d = digits m (negsuc k) f p in
    let q = pow_pos k in
    let r = pow-succ' 2 k in
    absurd (omega arith)

pub whole-near : (a c : ℕ) → 0 < c → 6755399441054743 * c ≤ a → a ≤ 6755399441056745 * c → Whole (round binary64 false a c)
whole-near a c C p q =
    let x = round binary64 false a c in
    let l = round binary64 false 6755399441054743 1 in
    let h = round binary64 false 6755399441056745 1 in
    let lv : HasValue l false 6755399441054743 1 = round_whole binary64 false 6755399441054743 (lit≤ tt) in
    let hv : HasValue h false 6755399441056745 1 = round_whole binary64 false 6755399441056745 (lit≤ tt) in
    let lx : T (le l x) = round_mono binary64 6755399441054743 1 a c (lit< tt) C (omega arith) in
    let xh : T (le x h) = round_mono binary64 a c 6755399441056745 1 C (lit< tt) (omega arith) in
    let lp = positive_of_value l 6755399441054743 1 lv (lit< tt) in
    let hp = positive_of_value h 6755399441056745 1 hv (lit< tt) in
    let xp = between l x h lp hp lx xh in
    whole_of x (round-fits binary64 false a c) xp
    (values_of_le l x 6755399441054743 1 (num x) (den x) lp xp lv (own_value x xp) lx)
    (values_of_le x h (num x) (den x) 6755399441056745 1 xp hp (own_value x xp) hv xh)
