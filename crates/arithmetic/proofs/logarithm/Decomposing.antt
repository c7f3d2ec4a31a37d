-- A positive f64 as 53 digits and a place, read from its bits: what the code works out from them is the last line of `log_of`.
use Rattle.std.proofs.Common.{◌≡◌, ℕ, zero, suc, ◌+◌, ◌-◌, ◌*◌, ◌/◌, ◌%◌, ◌^◌, ◌<◌, ◌≤◌, Bool, true, false, cond, ◌&&◌, T, eqb, ltb, leb, ℤ, pos, negsuc, ◌+ℤ◌, neg_ℤ, sym, refl, ap, ◌∙◌, subst, inl, inr, true≢false, le_trans, le_of_eq, lt_of_lt_of_le, lt_of_le_of_lt, mul-le-mul_right, zero-lt-suc, mul_assoc, mul_comm, lt_of_mul-lt-mul_right, mul-lt-mul_of_pos_right, mul-pos, zero-add, mul-one, mul_right_comm, not-le_of_lt, mul-div_cancel, arith, eqb→eq, ltb→lt, leb→le, pow_pos, pow_mono, pow-add, shl_lt, ltb-false, ltb-true, le-ltb, lt-ltb}
use native.Mathlib.Nat.{pow-succ'}
use lib.Pow.{pow-lt}
use lib.Count.{count_trailing_zeros, count_leading_zeros, leading_unique}
use lib.Ieee.{Float, nan, inf, fin, binary64, up, down, minus, size, odd, fits, to_bits, lt, of_bits, is_nan, eq, level}
use lib.Ieee.Digits.{size-lt, size_reaches, size-le, minus_val}
use lib.Ieee.Fits.{and_l, and_r, down_pos, up_pos}
use Rattle.arithmetic.specs.Logarithm.{log_by, significand, binade, places, M}
use Rattle.arithmetic.proofs.logarithm.LogBranches.{rest, Positive}
use Rattle.arithmetic.specs.Steps.Digits.{from_digits}
use Rattle.arithmetic.proofs.Tests.{either, le-or}
use Rattle.arithmetic.proofs.logarithm.Differences.{minus-add, minus_suc, minus-neg}
use Rattle.arithmetic.proofs.Powers.{minus_ge, minus-lt}

-- ---- an odd number times a power of two
odd_half : (n : ℕ) → n * 2 % 2 ≡ 0
odd_half n = omega arith

half_is : (n : ℕ) → n * 2 / 2 ≡ n
half_is n = omega arith

trailing : (d m t : ℕ) → m % 2 ≡ 1 → t ≤ d → count_trailing_zeros d (m * 2 ^ t) ≡ t
unfolding count_trailing_zeros
trailing zero m zero o h = refl
trailing zero m (suc t) o h = omega arith
trailing (suc d) m zero o h = rw (mul-one m, o)
trailing (suc d) m (suc t) o h =
    let e : m * 2 ^ suc t ≡ m * 2 ^ t * 2 = ap (λ (x : ℕ). m * x) (pow-succ' 2 t ∙ mul_comm 2 (2 ^ t)) ∙ sym (mul_assoc m (2 ^ t) 2) in
    rw (e, odd_half (m * 2 ^ t), half_is (m * 2 ^ t)) (ap suc (trailing d m t o (omega arith)))

above : (n : ℕ) → 0 < n → n ≡ suc (n - 1)
above n h = omega arith

odd_suc : (q k l t m : ℕ) → count_trailing_zeros 53 (suc q) ≡ t → suc q ≡ m * 2 ^ t → odd 53 false (suc q) k l ≡ fin false m (minus (k + t) l)
unfolding odd
odd_suc q k l t m e h = rw (e, h, mul-div_cancel m (pow_pos t))

odd_is : (m t k l : ℕ) → m % 2 ≡ 1 → 0 < m * 2 ^ t → t ≤ 53 → odd 53 false (m * 2 ^ t) k l ≡ fin false m (minus (k + t) l)
odd_is m t k l o p h =
    let q = m * 2 ^ t - 1 in
    let e : suc q ≡ m * 2 ^ t = sym (above (m * 2 ^ t) p) in
    ap (λ (x : ℕ). odd 53 false x k l) (sym e) ∙ odd_suc q k l t m (ap (count_trailing_zeros 53) e ∙ trailing 53 m t o h) e

-- ---- how many digits
size_unique : (n j : ℕ) → 2 ^ j ≤ n → n < 2 ^ suc j → size n ≡ suc j
size_unique n j h k =
    elim (le-or (size n) j) [
      | inl g ↦ absurd (not-le_of_lt (lt_of_lt_of_le (size-lt n) (pow_mono g)) h)
      | inr g ↦ let a = size-le n (suc j) k in omega arith
    ]

-- m is odd and has z + 1 digits, 53 at most
pub record Digits (m z : ℕ) : Type 0 where
  pub odd_m : m % 2 ≡ 1
  pub least : 2 ^ z ≤ m
  pub most : m < 2 ^ suc z
  pub few : z ≤ 52

-- ---- a number m · 2 ^ (E - 1074)
module _ {m z : ℕ} (D : Digits m z) (E : ℕ) where
  abbrev Q : ℕ
  Q = m * 2 ^ (52 - z)

  sum_52 : z + (52 - z) ≡ 52
  sum_52 = omega arith

  Q-low : 2 ^ 52 ≤ Q
  Q-low = le_trans (le_of_eq (ap (λ (x : ℕ). 2 ^ x) (sym sum_52) ∙ pow-add 2 z (52 - z))) (mul-le-mul_right (2 ^ (52 - z)) D.least)

  sum_53 : suc z + (52 - z) ≡ 53
  sum_53 = omega arith

  Q-high : Q < 2 ^ 53
  Q-high = subst (λ (x : ℕ). Q < 2 ^ x) sum_53 (shl_lt (suc z) (52 - z) D.most)

  shifted-low : 2 ^ (z + E) ≤ m * 2 ^ E
  shifted-low = le_trans (le_of_eq (pow-add 2 z E)) (mul-le-mul_right (2 ^ E) D.least)

  shifted-high : m * 2 ^ E < 2 ^ suc (z + E)
  shifted-high = let e : suc z + E ≡ suc (z + E) = omega arith in subst (λ (x : ℕ). m * 2 ^ E < 2 ^ x) e (shl_lt (suc z) E D.most)

  shifted-size : size (m * 2 ^ E) ≡ suc (z + E)
  shifted-size = size_unique (m * 2 ^ E) (z + E) shifted-low shifted-high

  -- ---- its bits
  abbrev v : Float
  v = fin false m (minus E 1074)

  units : m * up (minus E 1074) * 2 ^ 1074 / down (minus E 1074) ≡ m * 2 ^ E
  units = ap (λ (x : ℕ). x / down (minus E 1074)) (minus_val m E 1074) ∙ mul-div_cancel (m * 2 ^ E) (down_pos (minus E 1074))

  abbrev k : ℕ
  k = suc (z + E) - 53

  bits_is : to_bits binary64 v ≡ k * 4503599627370496 + m * 2 ^ E / 2 ^ k
  unfolding to_bits
  bits_is =
      ap (λ (n : ℕ). 0 + (size n - 53) * 4503599627370496 + n / 2 ^ (size n - 53)) units
      ∙ rw (shifted-size, zero-add)

  module _ (g : 53 ≤ suc (z + E)) where
    split : m * 2 ^ E ≡ Q * 2 ^ k
    split = let e : E ≡ 52 - z + k = omega arith in ap (λ (x : ℕ). m * 2 ^ x) e ∙ ap (λ (x : ℕ). m * x) (pow-add 2 (52 - z) k) ∙ sym (mul_assoc m (2 ^ (52 - z)) (2 ^ k))

    bits_normal : to_bits binary64 v ≡ k * 4503599627370496 + Q
    bits_normal = bits_is ∙ ap (λ (x : ℕ). k * 4503599627370496 + x) (ap (λ (x : ℕ). x / 2 ^ k) split ∙ mul-div_cancel Q (pow_pos k))

    normal_digits : to_bits binary64 v % 4503599627370496 + 4503599627370496 ≡ Q
    normal_digits = let a = Q-low in let b = Q-high in rw bits_normal (omega arith)

    normal_place : to_bits binary64 v / 4503599627370496 + 52 ≡ suc (z + E)
    normal_place = let a = Q-low in let b = Q-high in rw bits_normal (omega arith)

  module _ (g : suc (z + E) < 53) where
    bits_small : to_bits binary64 v ≡ m * 2 ^ E
    bits_small =
        let e : k ≡ 0 = omega arith in
        let d : m * 2 ^ E / 1 ≡ m * 2 ^ E = omega arith in
        bits_is ∙ ap (λ (x : ℕ). x * 4503599627370496 + m * 2 ^ E / 2 ^ x) e ∙ zero-add (m * 2 ^ E / 1) ∙ d

    twice-le : 2 ^ suc (z + E) ≤ 2 * (m * 2 ^ E) + 1
    twice-le = let a = shifted-low in rw (pow-succ' 2 (z + E)) (omega arith)

    zeros-is : count_leading_zeros 64 (to_bits binary64 v) ≡ 63 - (z + E)
    zeros-is =
        ap (count_leading_zeros 64) bits_small
        ∙ sym (leading_unique 64 (m * 2 ^ E) (63 - (z + E)) (suc (z + E)) (omega arith) shifted-high twice-le)

    small-shift : m * 2 ^ E * 2 ^ (63 - (z + E) - 11) ≡ Q
    small-shift =
        let e : E + (63 - (z + E) - 11) ≡ 52 - z = omega arith in
        mul_assoc m (2 ^ E) (2 ^ (63 - (z + E) - 11)) ∙ ap (λ (x : ℕ). m * x) (sym (pow-add 2 E (63 - (z + E) - 11)) ∙ ap (λ (x : ℕ). 2 ^ x) e)

    small-digits : to_bits binary64 v * 2 ^ (count_leading_zeros 64 (to_bits binary64 v) - 11) % 18446744073709551616 ≡ Q
    small-digits = let b = Q-high in rw (zeros-is, bits_small, small-shift) (omega arith)

  -- ---- the specification's m and k
  Q_pos : 0 < Q
  Q_pos = let a = Q-low in omega arith

  size-m : size m ≡ suc z
  size-m = size_unique m z D.least D.most

  -- M's digits
  scale : m * 1 * 1048576 * 2 ^ 33 ≡ Q * 2 ^ suc z
  scale =
      let e : m * 1 * 1048576 * 2 ^ 33 ≡ m * 2 ^ 53 = omega arith in
      let d : 52 - z + suc z ≡ 53 = omega arith in
      e ∙ ap (λ (x : ℕ). m * x) (ap (λ (x : ℕ). 2 ^ x) (sym d) ∙ pow-add 2 (52 - z) (suc z)) ∙ sym (mul_assoc m (2 ^ (52 - z)) (2 ^ suc z))

  scale-M : (p : ℕ) → 741455 * 1 * p * 2 ^ 33 ≡ 6369049952911360 * p
  scale-M p = omega arith

  below-M : lt (fin false m (negsuc z)) M ≡ ltb Q 6369049952911360
  unfolding lt M of_bits
  below-M =
      elim (either (ltb Q 6369049952911360)) [
        | inl h ↦
            let a : Q * 2 ^ suc z < 6369049952911360 * 2 ^ suc z = mul-lt-mul_of_pos_right (ltb-true Q 6369049952911360 h) (pow_pos (suc z)) in
            let b : m * 1 * 1048576 < 741455 * 1 * 2 ^ suc z = lt_of_mul-lt-mul_right (2 ^ 33) (let s = scale in let t = scale-M (2 ^ suc z) in omega arith) in
            lt-ltb (m * 1 * 1048576) (741455 * 1 * 2 ^ suc z) b ∙ sym h
        | inr h ↦
            let a : 6369049952911360 * 2 ^ suc z ≤ Q * 2 ^ suc z = mul-le-mul_right (2 ^ suc z) (ltb-false Q 6369049952911360 h) in
            let b : 741455 * 1 * 2 ^ suc z ≤ m * 1 * 1048576 = let s = scale in let t = scale-M (2 ^ suc z) in omega arith in
            le-ltb (m * 1 * 1048576) (741455 * 1 * 2 ^ suc z) b ∙ sym h
      ]

  places_is : places m ≡ cond (ltb Q 6369049952911360) z (suc z)
  unfolding places
  places_is = let e : suc z - 1 ≡ z = omega arith in rw (size-m, below-M) (ap (λ (x : ℕ). cond (ltb Q 6369049952911360) x (suc z)) e)

  at_places : (d : ℕ) → places m ≡ d → rest v ≡ log_by (fin false m (neg_ℤ (pos d))) (minus E 1074 +ℤ pos d)
  unfolding significand binade
  at_places d e = rw e

  digits-right : from_digits Q (suc (z + E)) ≡ rest v
  unfolding from_digits
  digits-right =
      elim (either (ltb Q 6369049952911360)) [
        | inl h ↦
            let d : 1022 + (52 - z) + z ≡ 1074 = omega arith in
            let x : E + z ≡ z + E = omega arith in
            rw (h, odd_is m (52 - z) 1022 1074 D.odd_m Q_pos (omega arith), minus-neg (1022 + (52 - z)) z 1074 d, minus_suc (z + E) 1074)
            (sym (at_places z (places_is ∙ rw h) ∙ ap (log_by (fin false m (neg_ℤ (pos z)))) (minus-add E z 1074 ∙ ap (λ (y : ℕ). minus y 1074) x)))
        | inr h ↦
            let d : 1021 + (52 - z) + suc z ≡ 1074 = omega arith in
            let x : E + suc z ≡ suc (z + E) = omega arith in
            rw (h, odd_is m (52 - z) 1021 1074 D.odd_m Q_pos (omega arith), minus-neg (1021 + (52 - z)) (suc z) 1074 d)
            (sym (at_places (suc z) (places_is ∙ rw h) ∙ ap (log_by (fin false m (neg_ℤ (pos (suc z))))) (minus-add E (suc z) 1074 ∙ ap (λ (y : ℕ). minus y 1074) x)))
      ]

-- ---- the same, of a v that is such a number
pub record Parts (v : Float) : Type 0 where
  pub m : ℕ
  pub z : ℕ
  pub E : ℕ
  pub is : v ≡ fin false m (minus E 1074)
  pub digits : Digits m z
  pub near : suc (z + E) < 4096

module _ {v : Float} (p : Parts v) where
  pub q-range : (2 ^ 52 ≤ p.m * 2 ^ (52 - p.z)) × (p.m * 2 ^ (52 - p.z) < 2 ^ 53)
  q-range = (Q-low p.digits p.E, Q-high p.digits p.E)

  is-small : to_bits binary64 v / 4503599627370496 ≡ 0 → suc (p.z + p.E) < 53
  is-small h =
      elim (le-or 53 (suc (p.z + p.E))) [
        | inl g ↦ let a = normal_place p.digits p.E g in let b = rw p.is at h in omega arith
        | inr g ↦ g
      ]

  is_normal : (to_bits binary64 v / 4503599627370496 ≡ 0 → ⊥) → 53 ≤ suc (p.z + p.E)
  is_normal h =
      elim (le-or 53 (suc (p.z + p.E))) [
        | inl g ↦ g
        | inr g ↦
            let a : p.m * 2 ^ p.E < 2 ^ 52 = lt_of_lt_of_le (shifted-high p.digits p.E) (pow_mono {i = suc (p.z + p.E)} {j = 52} (omega arith)) in
            absurd (h (rw (p.is, bits_small p.digits p.E g) (omega arith)))
      ]

  module _ (h : to_bits binary64 v / 4503599627370496 ≡ 0) where
    pub small-zeros : (count_leading_zeros 64 (to_bits binary64 v) ≡ 63 - (p.z + p.E)) × (p.z + p.E < 52)
    small-zeros = let g = is-small h in (rw p.is (zeros-is p.digits p.E g), omega arith)

    pub small-q : to_bits binary64 v * 2 ^ (count_leading_zeros 64 (to_bits binary64 v) - 11) % 18446744073709551616 ≡ p.m * 2 ^ (52 - p.z)
    small-q = rw p.is (small-digits p.digits p.E (is-small h))

    pub small-x : 64 - count_leading_zeros 64 (to_bits binary64 v) ≡ suc (p.z + p.E)
    small-x = let a = small-zeros.0 in let b = small-zeros.1 in omega arith

  module _ (h : to_bits binary64 v / 4503599627370496 ≡ 0 → ⊥) where
    pub normal_q : to_bits binary64 v % 4503599627370496 + 4503599627370496 ≡ p.m * 2 ^ (52 - p.z)
    normal_q = rw p.is (normal_digits p.digits p.E (is_normal h))

    pub normal_x : to_bits binary64 v / 4503599627370496 + 52 ≡ suc (p.z + p.E)
    normal_x = rw p.is (normal_place p.digits p.E (is_normal h))

  pub rest-is : (q x : ℕ) → q ≡ p.m * 2 ^ (52 - p.z) → x ≡ suc (p.z + p.E) → from_digits q x ≡ rest v
  rest-is q x e r = rw (e, r, p.is) (digits-right p.digits p.E)

-- ---- every positive f64 is one
place_of : (e : ℤ) → down e ≤ 2 ^ 1074 → (E : ℕ) × (e ≡ minus E 1074)
place_of (pos j) h = let e : j + 1074 - 1074 ≡ j = omega arith in (j + 1074, sym (minus_ge (j + 1074) 1074 (omega arith) ∙ ap pos e))
place_of (negsuc j) h =
    elim (le-or (suc j) 1074) [
      | inl g ↦ let e : 1074 - suc (1073 - j) ≡ j = omega arith in (1073 - j, sym (minus-lt (1073 - j) 1074 (omega arith) ∙ ap negsuc e))
      | inr g ↦ absurd (not-le_of_lt (pow-lt g) h)
    ]

at_place : (n E : ℕ) → T (fits binary64 (fin false (suc n) (minus E 1074))) → Parts (fin false (suc n) (minus E 1074))
unfolding fits
at_place n E t =
    let m = suc n in
    let e = minus E 1074 in
    let A = eqb (m % 2) 1 in
    let B = ltb m (2 ^ 53) in
    let C = leb (down e) (2 ^ 1074) in
    let D = ltb (m * up e) (2 ^ 1024 * down e) in
    let top : m * up e < 2 ^ 1024 * down e = ltb→lt (m * up e) (2 ^ 1024 * down e) (and_r (A && B && C) D t) in
    let o : m % 2 ≡ 1 = eqb→eq (m % 2) 1 (and_l A B (and_l (A && B) C (and_l (A && B && C) D t))) in
    let w : m < 2 ^ 53 = ltb→lt m (2 ^ 53) (and_r A B (and_l (A && B) C (and_l (A && B && C) D t))) in
    go n E (size m) refl o w top
  where
    go : (n E s : ℕ) → size (suc n) ≡ s → suc n % 2 ≡ 1 → suc n < 2 ^ 53 → suc n * up (minus E 1074) < 2 ^ 1024 * down (minus E 1074) → Parts (fin false (suc n) (minus E 1074))
    go n E zero q o w top = let a : suc n < 2 ^ 0 = subst (λ (x : ℕ). suc n < 2 ^ x) q (size-lt (suc n)) in let f : ⊥ = omega arith in absurd f
    go n E (suc z) q o w top =
        let m = suc n in
        let e = minus E 1074 in
        let lo : 2 ^ z ≤ m = size_reaches m z (omega arith) in
        let hi : m < 2 ^ suc z = subst (λ (x : ℕ). m < 2 ^ x) q (size-lt m) in
        let Z : suc z ≤ 53 = subst (λ (x : ℕ). x ≤ 53) q (size-le m 53 w) in
        let a : m * 2 ^ E * down e < 2 ^ 2098 * down e =
        subst (λ (x : ℕ). x < 2 ^ 2098 * down e) (minus_val m E 1074)
        (lt_of_lt_of_le (mul-lt-mul_of_pos_right top (pow_pos 1074)) (le_of_eq (mul_right_comm (2 ^ 1024) (down e) (2 ^ 1074)))) in
        let b : m * 2 ^ E < 2 ^ 2098 = lt_of_mul-lt-mul_right (down e) a in
        let c : 2 ^ (z + E) < 2 ^ 2098 = lt_of_le_of_lt (le_trans (le_of_eq (pow-add 2 z E)) (mul-le-mul_right (2 ^ E) lo)) b in
        let d : z + E < 2098 = elim (le-or 2098 (z + E)) [ inl g ↦ absurd (not-le_of_lt c (pow_mono g)) | inr g ↦ g ] in
        record { m = m; z = z; E = E; is = refl; digits = record { odd_m = o; least = lo; most = hi; few = omega arith }; near = omega arith }

down_le : (n : ℕ) (e : ℤ) → T (fits binary64 (fin false (suc n) e)) → down e ≤ 2 ^ 1074
unfolding fits
down_le n e t =
    let m = suc n in
    leb→le (down e) (2 ^ 1074)
    (and_r (eqb (m % 2) 1 && ltb m (2 ^ 53)) (leb (down e) (2 ^ 1074))
    (and_l (eqb (m % 2) 1 && ltb m (2 ^ 53) && leb (down e) (2 ^ 1074)) (ltb (m * up e) (2 ^ 1024 * down e)) t))

of_positive : (n : ℕ) (e : ℤ) → T (fits binary64 (fin false (suc n) e)) → Parts (fin false (suc n) e)
of_positive n e t =
    let p = place_of e (down_le n e t) in
    subst (λ (x : ℤ). Parts (fin false (suc n) x)) (sym p.1) (at_place n p.0 (subst (λ (x : ℤ). T (fits binary64 (fin false (suc n) x))) p.1 t))

-- what is no NaN, not below zero, no zero and not the infinity
zero_eq : (s : Bool) (a b : ℕ) → a ≡ 0 → b ≡ 0 → level s a false b ≡ true
zero_eq true a b p q = rw (p, q)
zero_eq false a b p q = rw (p, q)

pub parts_of : (v : Float) → Positive v → T (fits binary64 v) → Parts v
unfolding is_nan lt eq
parts_of nan h t = absurd (true≢false h.0)
parts_of (inf true) h t = absurd (true≢false h.1)
parts_of (inf false) h t = absurd (true≢false h.3)
parts_of (fin s zero e) h t =
    absurd (true≢false (sym (zero_eq s (0 * up e * 1) (0 * 1 * down e) (omega arith) (omega arith)) ∙ h.2))
parts_of (fin true (suc n) e) h t =
    let u = up_pos e in
    let p : 0 < suc n * up e = mul-pos (zero-lt-suc n) u in
    absurd (true≢false (sym (lt-ltb 0 (suc n * up e * 1 + 0 * 1 * down e) (omega arith)) ∙ h.1))
parts_of (fin false (suc n) e) h t = of_positive n e t
