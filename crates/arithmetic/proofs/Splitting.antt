-- The specification's m lies at M or above and below 2·M, and m · 2^k is v.
use Rattle.std.proofs.Common.{◌≡◌, ℕ, zero, suc, ◌-◌, ◌*◌, ◌^◌, ◌<◌, ◌≤◌, Bool, true, false, cond, ◌&&◌, ◌||◌, T, eqb, ltb, ℤ, pos, negsuc, ◌+ℤ◌, neg_ℤ, sym, refl, ap, ◌∙◌, subst, inl, inr, true≢false, mul-le-mul_right, mul_assoc, mul_comm, le_antisymm, eq-or-lt_of_le, mul-le-mul_left, mul-lt-mul_of_pos_right, mul_right_comm, mul_left_comm, arith, ltb→lt, lt→ltb, pow_pos, pow_mono, ltb-false, ltb-true}
use native.Mathlib.Nat.{pow-succ'}
use lib.Signed.{lt_z}
use lib.Dec.{eqb_refl}
use lib.IntN.{+ℤ_comm, +ℤ_assoc, +ℤ_invr, +ℤ_invl, +ℤ_idr, +ℤ_idl}
use lib.Ieee.{Float, nan, inf, fin, up, down, lt, le, size, of_bits, mul}
use Rattle.arithmetic.specs.Floats.{◌⊗◌, two}
use lib.Ieee.Digits.{size-lt, size_reaches}
use lib.Ieee.Fits.{down_pos}
use Rattle.arithmetic.specs.Logarithm.{places, M, Splits, significand, binade, SplitOnce}
use Rattle.arithmetic.proofs.Tests.{either}
use Rattle.arithmetic.proofs.Powers.{two_is}
use Rattle.arithmetic.proofs.Within.{le→fractions}

up_neg : (z : ℕ) → up (neg_ℤ (pos z)) ≡ 1
up_neg zero = refl
up_neg (suc z) = refl

down_neg : (z : ℕ) → down (neg_ℤ (pos z)) ≡ 2 ^ z
down_neg zero = refl
down_neg (suc z) = refl

or-i : (a b : ℕ) → a ≤ b → T (ltb a b || (eqb a b && true))
or-i a b h = elim (eq-or-lt_of_le h) [ inl p ↦ subst (λ (x : ℕ). T (ltb a x || (eqb a x && true))) p (same a) | inr q ↦ less a b (ltb a b) (lt→ltb a b q) ]
  where
    less : (a b : ℕ) (t : Bool) → T t → T (t || (eqb a b && true))
    less a b true h = tt
    less a b false h = absurd h

    flag : (t u : Bool) → T u → T (t || (u && true))
    flag true u h = tt
    flag false true h = tt
    flag false false h = absurd h

    same : (a : ℕ) → T (ltb a a || (eqb a a && true))
    same a = flag (ltb a a) (eqb a a) (eqb_refl a)

abbrev pub part : ℕ → ℕ → Float
part n d = fin false n (neg_ℤ (pos d))

from-M : (n d : ℕ) → 741455 * 2 ^ d ≤ n * 1048576 → T (le M (part n d))
unfolding le M of_bits
from-M n d h = rw (up_neg d, down_neg d) (or-i (741455 * 1 * 2 ^ d) (n * 1 * 1048576) (omega arith))

to_2M : (n d : ℕ) → n * 524288 < 741455 * 2 ^ d → T (lt (part n d) (fin false 741455 (negsuc 18)))
unfolding lt
to_2M n d h = rw (up_neg d, down_neg d) (lt→ltb (n * 1 * 524288) (741455 * 1 * 2 ^ d) (omega arith))

test_true : (n d : ℕ) → lt (part n d) M ≡ true → n * 1048576 < 741455 * 2 ^ d
unfolding lt M of_bits
test_true n d h = let a = ltb-true (n * 1 * 1048576) (741455 * 1 * 2 ^ d) (rw (up_neg d, down_neg d) at h) in omega arith

test_false : (n d : ℕ) → lt (part n d) M ≡ false → 741455 * 2 ^ d ≤ n * 1048576
unfolding lt M of_bits
test_false n d h = let a = ltb-false (n * 1 * 1048576) (741455 * 1 * 2 ^ d) (rw (up_neg d, down_neg d) at h) in omega arith

abbrev InRange : ℕ → ℕ → Type 0
InRange n d = T (le M (part n d)) × T (lt (part n d) (fin false 741455 (negsuc 18)))

-- n of s digits
sized : (n s : ℕ) → 0 < n → size n ≡ s → InRange n (cond (lt (part n s) M) (s - 1) s)
sized n zero p q = let a : n < 2 ^ 0 = subst (λ (x : ℕ). n < 2 ^ x) q (size-lt n) in let f : ⊥ = omega arith in absurd f
sized n (suc z) p q =
    let lo : 2 ^ z ≤ n = size_reaches n z (omega arith) in
    let hi : n < 2 ^ suc z = subst (λ (x : ℕ). n < 2 ^ x) q (size-lt n) in
    let e : suc z - 1 ≡ z = omega arith in
    let two : 2 ^ suc z ≡ 2 * 2 ^ z = pow-succ' 2 z in
    elim (either (lt (part n (suc z)) M)) [
      | inl h ↦ let a = test_true n (suc z) h in rw (h, e) (from-M n z (omega arith), to_2M n z (omega arith))
      | inr h ↦ let a = test_false n (suc z) h in rw h (from-M n (suc z) a, to_2M n (suc z) (omega arith))
    ]

pub in_range_lem : (n : ℕ) → 0 < n → InRange n (places n)
unfolding places
in_range_lem n p = sized n (size n) p refl

-- 2·M
M-is : M ≡ fin false 741455 (negsuc 19)
unfolding M of_bits
M-is = refl

twice : fin false 1 (pos 1) ⊗ fin false 741455 (negsuc 19) ≡ fin false 741455 (negsuc 18)
unfolding mul
twice = refl

pub two-M : two ⊗ M ≡ fin false 741455 (negsuc 18)
two-M = rw (two_is, M-is) twice

pub exponents : (e : ℤ) (d : ℕ) → neg_ℤ (pos d) +ℤ (e +ℤ pos d) ≡ e
exponents e d = +ℤ_comm (neg_ℤ (pos d)) (e +ℤ pos d) ∙ +ℤ_assoc e (pos d) (neg_ℤ (pos d)) ∙ ap (λ (x : ℤ). e +ℤ x) (+ℤ_invr (pos d)) ∙ +ℤ_idr e

-- ---- v = m·2^k

pub split : (n : ℕ) (e : ℤ) → 0 < n → Splits (fin false n e) (significand (fin false n e)) (binade (fin false n e))
unfolding significand binade
split n e p = record {
  whole = ap (fin false n) (sym (exponents e (places n)));
  least = (in_range_lem n p).0;
  most = rw two-M (in_range_lem n p).1;
}

-- ---- and no other m and k do

-- 2^d is at least twice 2^e where e < d
doubled : (e d : ℤ) → lt_z e d ≡ true → 2 * (up e * down d) ≤ up d * down e
doubled (pos a) (pos b) h = let l : suc a ≤ b = ltb-true a b h in let m = pow_mono l in let s = pow-succ' 2 a in omega arith
doubled (pos a) (negsuc b) h = absurd (true≢false (sym h))
doubled (negsuc a) (pos b) h =
    let s = pow-succ' 2 a in
    let p = pow_pos a in
    let q = pow_pos b in
    let m : 1 * 2 ^ suc a ≤ 2 ^ b * 2 ^ suc a = mul-le-mul_right (2 ^ suc a) q in
    omega arith
doubled (negsuc a) (negsuc b) h =
    let l : suc b ≤ a = ltb-true b a h in
    let m = pow_mono l in
    let s = pow-succ' 2 a in
    omega arith

cross : (n a b c d : ℕ) → 0 < b → 741455 * b ≤ n * a * 1048576 → n * c * 524288 < 741455 * d → 2 * (a * d) ≤ c * b → ⊥
cross n a b c d p low high twice =
    let x : 741455 * b * d ≤ n * a * 1048576 * d = mul-le-mul_right d low in
    let y : n * c * 524288 * b < 741455 * d * b = mul-lt-mul_of_pos_right high p in
    let z : n * (2 * (a * d)) ≤ n * (c * b) = mul-le-mul_left n twice in
    let e : 741455 * d * b ≡ 741455 * b * d = mul_right_comm 741455 d b in
    let f : n * a * 1048576 * d ≡ 524288 * (n * (2 * (a * d))) = ac1 n a d in
    let g : n * c * 524288 * b ≡ 524288 * (n * (c * b)) = ac2 n c b in
    omega arith
  where
    ac2 : (n c b : ℕ) → n * c * 524288 * b ≡ 524288 * (n * (c * b))
    ac2 n c b = mul_right_comm (n * c) 524288 b ∙ mul_comm (n * c * b) 524288 ∙ ap (λ (x : ℕ). 524288 * x) (mul_assoc n c b)

    ac1 : (n a d : ℕ) → n * a * 1048576 * d ≡ 524288 * (n * (2 * (a * d)))
    ac1 n a d =
        let h : n * (2 * (a * d)) ≡ 2 * (n * (a * d)) = mul_left_comm n 2 (a * d) in
        let k : n * a * 1048576 * d ≡ 1048576 * (n * (a * d)) = mul_right_comm (n * a) 1048576 d ∙ mul_comm (n * a * d) 1048576 ∙ ap (λ (x : ℕ). 1048576 * x) (mul_assoc n a d) in
        omega arith

-- M ≤ n·2^e and n·2^d < 2·M: then e is not below d
out_of_order : (n : ℕ) (e d : ℤ) → T (le M (fin false n e)) → T (lt (fin false n d) (two ⊗ M)) → lt_z e d ≡ true → ⊥
unfolding lt
out_of_order n e d low high h =
    cross n (up e) (down e) (up d) (down d) (down_pos e) (least n e low) (most n d (rw two-M at high)) (doubled e d h)
  where
    least : (n : ℕ) (e : ℤ) → T (le M (fin false n e)) → 741455 * down e ≤ n * up e * 1048576
    least n e t = let a = le→fractions 741455 n (negsuc 19) e (rw M-is at t) in omega arith

    most : (n : ℕ) (d : ℤ) → T (lt (fin false n d) (fin false 741455 (negsuc 18))) → n * up d * 524288 < 741455 * down d
    most n d t = let a = ltb→lt (n * up d * 524288) (741455 * 1 * down d) t in omega arith

neither : (a b : ℤ) → lt_z a b ≡ false → lt_z b a ≡ false → a ≡ b
neither (pos a) (pos b) p q = ap pos (le_antisymm (ltb-false b a q) (ltb-false a b p))
neither (pos a) (negsuc b) p q = absurd (true≢false q)
neither (negsuc a) (pos b) p q = absurd (true≢false p)
neither (negsuc a) (negsuc b) p q = ap negsuc (le_antisymm (ltb-false b a p) (ltb-false a b q))

same_place : (n : ℕ) (e d : ℤ) → T (le M (fin false n e)) → T (lt (fin false n e) (two ⊗ M)) → T (le M (fin false n d)) → T (lt (fin false n d) (two ⊗ M)) → e ≡ d
same_place n e d a b c h =
    elim (either (lt_z e d)) [
      | inl p ↦ absurd (out_of_order n e d a h p)
      | inr p ↦ elim (either (lt_z d e)) [ inl q ↦ absurd (out_of_order n d e c b q) | inr q ↦ neither e d p q ]
    ]

cancel : (a b c : ℤ) → a +ℤ b ≡ a +ℤ c → b ≡ c
cancel a b c h = back b ∙ ap (λ (x : ℤ). neg_ℤ a +ℤ x) h ∙ sym (back c)
  where
    back : (x : ℤ) → x ≡ neg_ℤ a +ℤ (a +ℤ x)
    back x = sym (sym (+ℤ_assoc (neg_ℤ a) a x) ∙ ap (λ (y : ℤ). y +ℤ x) (+ℤ_invl a) ∙ +ℤ_idl x)

pub split-only : (n : ℕ) (e : ℤ) → 0 < n → (m : Float) (k : ℤ) → Splits (fin false n e) m k → (m ≡ significand (fin false n e)) × (k ≡ binade (fin false n e))
unfolding significand binade
split-only n e p nan k s = let z : ◌≡◌ {A = ℕ} 0 1 = cc s.whole in absurd (omega arith)
split-only n e p (inf t) k s = let z : ◌≡◌ {A = ℕ} 0 1 = cc s.whole in absurd (omega arith)
split-only n e p (fin t n' e') k s = found n' t (cc s.whole) (cc s.whole) (cc s.whole) s.least s.most
  where
    found : (n' : ℕ) (t : Bool) → n ≡ n' → false ≡ t → e ≡ e' +ℤ k → T (le M (fin t n' e')) → T (lt (fin t n' e') (two ⊗ M)) →
        (fin t n' e' ≡ significand (fin false n e)) × (k ≡ binade (fin false n e))
    found n' t q u w low high =
        let lo : T (le M (fin false n e')) = rw (← u, ← q) at low in
        let hi : T (lt (fin false n e') (two ⊗ M)) = rw (← u, ← q) at high in
        let j : Splits (fin false n e) (significand (fin false n e)) (binade (fin false n e)) = split n e p in
        let d : e' ≡ neg_ℤ (pos (places n)) = same_place n e' (neg_ℤ (pos (places n))) lo hi j.least j.most in
        (rw (← u, ← q, d), cancel (neg_ℤ (pos (places n))) k (e +ℤ pos (places n)) (ap (λ (x : ℤ). x +ℤ k) (sym d) ∙ sym w ∙ sym (exponents e (places n))))

pub split-once : SplitOnce
split-once n e p = (split n e p, split-only n e p)
