-- No decimal of at most 15 digits lies halfway between two f64s, so every f64 but the nearest is farther off.
use Rattle.std.proofs.Common.{◌≡◌, ℕ, zero, suc, ◌+◌, ◌-◌, ◌*◌, ◌/◌, ◌%◌, ◌^◌, ◌<◌, ◌≤◌, Bool, ◌⊎◌, sym, refl, ap, ◌∙◌, subst, inl, inr, le_trans, le_of_eq, lt_of_lt_of_le, lt_of_le_of_lt, le_of_lt, mul-le-mul_right, mul_assoc, suc-mul, add-mul, mul-lt-mul_of_pos_right, mul-pos, pow-suc, le-div_iff_mul-le, mul_right_comm, le-mul_of_pos_right, le_of_mul-le-mul_right, arith, lit<, pow_pos, pow_mono, pow-add, shl_lt}
use native.Mathlib.Nat.{eq_of_mul-eq-mul_right, one-le-pow}
use lib.Ieee.{binary64, size, round}
use lib.Ieee.Digits.{size_reaches}
use lib.Ieee.Exact.{HasValue}
use lib.Ieee.Scale.{grid}
use Rattle.arithmetic.specs.Floats.{dec}
use Rattle.arithmetic.specs.Units.{apart, units_of}
use Rattle.arithmetic.specs.Decimals.{Rounded}
use Rattle.arithmetic.proofs.Tests.{le-or}
use Rattle.arithmetic.proofs.UnitLaws.{placed, equals-units, value-units}
use Rattle.arithmetic.proofs.decimals.Tens.{ten_pos, factor}
use Rattle.arithmetic.proofs.decimals.Rounds as rounds

-- ---- odd numbers

odd_times : (a b : ℕ) → a % 2 ≡ 1 → b % 2 ≡ 1 → a * b % 2 ≡ 1
odd_times a b h g =
    let e : a ≡ a / 2 * 2 + 1 = omega arith in
    let x : a * b ≡ a / 2 * 2 * b + 1 * b = ap (λ (z : ℕ). z * b) e ∙ add-mul (a / 2 * 2) 1 b in
    let y = mul_right_comm (a / 2) 2 b in
    omega arith

fives_odd : (d : ℕ) → 5 ^ d % 2 ≡ 1
fives_odd zero = refl
fives_odd (suc d) = ap (λ (z : ℕ). z % 2) (pow-suc 5 d) ∙ odd_times (5 ^ d) 5 (fives_odd d) refl

even_not : (n q P : ℕ) → n * (q * 2) ≡ P → P % 2 ≡ 1 → ⊥
even_not n q P e o = let x : n * (q * 2) ≡ n * q * 2 = sym (mul_assoc n q 2) in omega arith

-- ---- n · 2^1075 is no odd c times 10^d · 2^k: for d + k < 1075 the one side is even and the other odd; else n would be c or more,
-- and c has 53 digits or more where k > 0

unit-is : (d k : ℕ) → 10 ^ d * 2 ^ k ≡ 5 ^ d * 2 ^ (d + k)
unit-is d k =
    ap (λ (x : ℕ). x * 2 ^ k) (factor d) ∙ mul_assoc (5 ^ d) (2 ^ d) (2 ^ k) ∙ ap (λ (x : ℕ). 5 ^ d * x) (sym (pow-add 2 d k))

module _ (n d k c : ℕ) (small : n < 10 ^ 15) (odd : c % 2 ≡ 1) (e : n * 2 ^ 1075 ≡ c * (10 ^ d * 2 ^ k)) where
  P : ℕ
  P = c * 5 ^ d

  P_odd : P % 2 ≡ 1
  unfolding P
  P_odd = odd_times c (5 ^ d) odd (fives_odd d)

  both_sides : n * 2 ^ 1075 ≡ P * 2 ^ (d + k)
  unfolding P
  both_sides = e ∙ ap (λ (x : ℕ). c * x) (unit-is d k) ∙ sym (mul_assoc c (5 ^ d) (2 ^ (d + k)))

  low : d + k < 1075 → ⊥
  low h =
      let j = 1074 - (d + k) in
      let s : suc j + (d + k) ≡ 1075 = omega arith in
      let x : n * 2 ^ suc j * 2 ^ (d + k) ≡ P * 2 ^ (d + k) =
      mul_assoc n (2 ^ suc j) (2 ^ (d + k))
      ∙ ap (λ (z : ℕ). n * z) (sym (pow-add 2 (suc j) (d + k)) ∙ ap (λ (z : ℕ). 2 ^ z) s)
      ∙ both_sides in
      even_not n (2 ^ j) P
      (ap (λ (z : ℕ). n * z) (sym (pow-suc 2 j)) ∙ eq_of_mul-eq-mul_right (2 ^ (d + k)) (pow_pos (d + k)) (n * 2 ^ suc j) P x)
      P_odd

  high : 2 ^ 53 ≤ c → 1075 ≤ d + k → ⊥
  unfolding P
  high b h =
      let j = d + k - 1075 in
      let s : j + 1075 ≡ d + k = omega arith in
      let x : n * 2 ^ 1075 ≡ P * 2 ^ j * 2 ^ 1075 =
      both_sides
      ∙ ap (λ (z : ℕ). P * z) (ap (λ (z : ℕ). 2 ^ z) (sym s) ∙ pow-add 2 j 1075)
      ∙ sym (mul_assoc P (2 ^ j) (2 ^ 1075)) in
      let y : n ≡ P * 2 ^ j = eq_of_mul-eq-mul_right (2 ^ 1075) (pow_pos 1075) n (P * 2 ^ j) x in
      let z : c ≤ c * 5 ^ d = le-mul_of_pos_right c (one-le-pow d 5 (lit< tt)) in
      let w : c * 5 ^ d ≤ c * 5 ^ d * 2 ^ j = le-mul_of_pos_right (c * 5 ^ d) (pow_pos j) in
      omega arith

  no_odd : d < 15 → (0 < k → 2 ^ 53 ≤ c) → ⊥
  no_odd h b = elim (le-or 1075 (d + k)) [ inl g ↦ high (b (omega arith)) g | inr g ↦ low g ]

-- ---- so the digits that are kept are less than half a unit off

twice : (n : ℕ) → n * 2 ^ 1074 * 2 ≡ n * 2 ^ 1075
twice n = mul_assoc n (2 ^ 1074) 2 ∙ ap (λ (x : ℕ). n * x) (sym (pow-suc 2 1074))

above : (K v M : ℕ) → M * 2 ≡ K * v * 2 + v → M * 2 ≡ (K * 2 + 1) * v
above K v M e = let x = add-mul (K * 2) 1 v in let y = mul_right_comm K 2 v in omega arith

below : (K v M : ℕ) → suc K * v * 2 ≡ M * 2 + v → M * 2 ≡ (K * 2 + 1) * v
below K v M e = let x = add-mul (K * 2) 1 v in let y = mul_right_comm K 2 v in let z = suc-mul K v in omega arith

none_below_lem : (v M : ℕ) → 0 < v → 0 * v * 2 ≡ M * 2 + v → ⊥
none_below_lem v M h e = omega arith

odd_one : (K : ℕ) → (K * 2 + 1) % 2 ≡ 1
odd_one K = omega arith

halfway : (A M v : ℕ) → apart A M * 2 ≡ v → (A * 2 ≡ M * 2 + v) ⊎ (M * 2 ≡ A * 2 + v)
halfway A M v e = elim (le-or A M) [ inl h ↦ inr (omega arith) | inr h ↦ inl (omega arith) ]

less : (A v : ℕ) → A * 2 ≤ v → (A * 2 ≡ v → ⊥) → A * 2 < v
less A v h ne = omega arith

-- where digits are dropped, 53 are kept
all-kept : (z j : ℕ) → j < z - 53 → 52 + (z - 53) < z
all-kept z j h = omega arith

doubled : (a v M : ℕ) → a * v ≤ M → a * 2 * v ≤ M * 2
doubled a v M h = let x = mul_right_comm a 2 v in omega arith

module _ (n d : ℕ) (small : n < 10 ^ 15) (few : d < 15) where
  abbrev D : 0 < 10 ^ d
  D = ten_pos d

  abbrev M : ℕ
  M = n * 2 ^ 1074

  abbrev v : ℕ
  v = rounds.u n (10 ^ d) D

  abbrev k : ℕ
  k = rounds.k n (10 ^ d) D

  abbrev K : ℕ
  K = rounds.K n (10 ^ d) D

  v_pos : 0 < v
  v_pos = mul-pos D (pow_pos k)

  full : 0 < k → 2 ^ 52 * v ≤ M
  full h =
      let low : 2 ^ (52 + k) ≤ M / 10 ^ d = size_reaches (M / 10 ^ d) (52 + k) (all-kept (size (M / 10 ^ d)) 0 h) in
      le_trans (le_of_eq (sym (rounds.step_is n (10 ^ d) D))) ((le-div_iff_mul-le D).0 low)

  no_odd_at : (c : ℕ) → c % 2 ≡ 1 → M * 2 ≡ c * v → ⊥
  no_odd_at c o e =
      no_odd n d k c small o (sym (twice n) ∙ e) few
      (λ h. le_of_mul-le-mul_right (le_trans (doubled (2 ^ 52) v M (full h)) (le_of_eq e)) v_pos)

  no_tie : (q : ℕ) → (q * v * 2 ≡ M * 2 + v) ⊎ (M * 2 ≡ q * v * 2 + v) → ⊥
  no_tie zero (inl e) = none_below_lem v M v_pos e
  no_tie (suc q) (inl e) = no_odd_at (q * 2 + 1) (odd_one q) (below q v M e)
  no_tie q (inr e) = no_odd_at (q * 2 + 1) (odd_one q) (above q v M e)

  closer : apart (K * v) M * 2 < v
  closer = less (apart (K * v) M) v (rounds.half-off n (10 ^ d) D) (λ e. no_tie K (halfway (K * v) M v e))

-- ---- every f64 of another size is farther off

down_far : (A C M v : ℕ) → apart A M * 2 < v → C + v ≤ A → apart A M < apart C M
down_far A C M v a h = omega arith

up_far : (A C M v : ℕ) → apart A M * 2 < v → A + v ≤ C → apart A M < apart C M
up_far A C M v a h = omega arith

next_le : (a b v : ℕ) → a < b → a * v + v ≤ b * v
next_le a b v h = le_trans (le_of_eq (sym (suc-mul a v))) (mul-le-mul_right v h)

multiples : (K c v M : ℕ) → apart (K * v) M * 2 < v → (K ≡ c) ⊎ (apart (K * v) M < apart (c * v) M)
multiples K c v M a =
    elim (le-or K c) [
      | inl g ↦ elim (le-or c K) [ inl f ↦ inl (omega arith) | inr l ↦ inr (up_far (K * v) (c * v) M v a (next_le K c v l)) ]
      | inr l ↦ inr (down_far (K * v) (c * v) M v a (next_le c K v l))
    ]

farther : (b c M : ℕ) → b < c → c ≤ M → apart c M < apart b M
farther b c M h g = omega arith

one_up : (j k : ℕ) → j < k → 53 + j ≤ 52 + k
one_up j k h = omega arith

joined : (m i z : ℕ) → z ≤ i → m * 2 ^ i ≡ m * 2 ^ (i - z) * 2 ^ z
joined m i z h =
    let e : i - z + z ≡ i = omega arith in
    ap (λ (x : ℕ). m * x) (ap (λ (x : ℕ). 2 ^ x) (sym e) ∙ pow-add 2 (i - z) z) ∙ sym (mul_assoc m (2 ^ (i - z)) (2 ^ z))

moved : {a b c e : ℕ} (f : ℕ) → a ≡ b → c ≡ e → apart a f < apart c f → apart b f < apart e f
moved {a} {b} {c} {e} f p q l = subst (λ (x : ℕ). apart x f < apart e f) p (subst (λ (x : ℕ). apart a f < apart x f) q l)

at_most : (q w M : ℕ) → apart (q * w) M * 2 < w → apart (q * w) M ≤ apart (2 ^ 52 * w) M
at_most q w M g =
    elim (multiples q (2 ^ 52) w M g) [ inl e ↦ le_of_eq (ap (λ (x : ℕ). apart (x * w) M) e) | inr l ↦ le_of_lt l ]

module _ (n d : ℕ) (small : n < 10 ^ 15) (few : d < 15) where
  abbrev E : 0 < 10 ^ d
  E = ten_pos d

  abbrev G : ℕ
  G = grid binary64 n (10 ^ d)

  only_of : (m i : ℕ) → m < 2 ^ 53
      → (m * 2 ^ i ≡ G) ⊎ (apart (G * 10 ^ d) (n * 2 ^ 1074) < apart (m * 2 ^ i * 10 ^ d) (n * 2 ^ 1074))
  only_of m i s =
      let g = closer n d small few in
      let q = K n d small few in
      let w = v n d small few in
      let z = k n d small few in
      let r = rounds.grid-is n (10 ^ d) E in
      elim (le-or z i) [
        | inl h ↦
            elim (multiples q (m * 2 ^ (i - z)) w (n * 2 ^ 1074) g) [
              | inl e ↦ inl (joined m i z h ∙ ap (λ (x : ℕ). x * 2 ^ z) (sym e))
              | inr l ↦ inr (moved (n * 2 ^ 1074) (sym r) (sym (rounds.wide n (10 ^ d) E m i h)) l)
            ]
        | inr h ↦
            let b : m * 2 ^ i * 10 ^ d < 2 ^ 52 * w =
            lt_of_lt_of_le (mul-lt-mul_of_pos_right (lt_of_lt_of_le (shl_lt 53 i s) (pow_mono (one_up i z h))) E)
            (le_of_eq (rounds.step_is n (10 ^ d) E)) in
            let f = farther (m * 2 ^ i * 10 ^ d) (2 ^ 52 * w) (n * 2 ^ 1074) b (full n d small few (omega arith)) in
            inr (lt_of_le_of_lt (le_of_eq (ap (λ (x : ℕ). apart x (n * 2 ^ 1074)) r)) (lt_of_le_of_lt (at_most q w (n * 2 ^ 1074) g) f))
      ]

  pub dec_rounded : (s : Bool) → Rounded s n d (dec s n d)
  unfolding dec
  dec_rounded s =
      let r = round binary64 s n (10 ^ d) in
      let val : HasValue r s G (2 ^ 1074) = rounds.has n (10 ^ d) E small s in
      let o : units_of r ≡ G = value-units r s G val in
      record {
        value = subst (λ (a : ℕ). HasValue r s a (2 ^ 1074)) (sym o) val;
        nearest = λ y t f.
            let p = placed y t f in
            let q : units_of y ≡ p.m * 2 ^ p.j = equals-units y (p.m * 2 ^ p.j) p.is in
            rw (o, q) (only_of p.m p.j p.small);
      }
