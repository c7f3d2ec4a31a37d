-- Every finite f64 is a whole number of 2^-1074.
use Rattle.std.proofs.Common.{◌≡◌, ℕ, zero, suc, ◌+◌, ◌-◌, ◌*◌, ◌/◌, ◌%◌, ◌^◌, ◌<◌, ◌≤◌, Bool, ◌&&◌, T, eqb, ltb, leb, ℤ, pos, negsuc, sym, ap, ◌∙◌, subst, inl, inr, mul_assoc, zero-mul, mul-one, not-le_of_lt, mul-div_cancel, arith, lit<, ltb→lt, leb→le, pow-add}
use lib.Pow.{pow-lt}
use lib.Ieee.{Float, nan, inf, fin, binary64, up, down, fits}
use lib.Ieee.Digits.{Equals}
use lib.Ieee.Fits.{down_pos, and_l, and_r}
use lib.Ieee.Exact.{HasValue}
use lib.Ieee.Scale.{finite}
use Rattle.arithmetic.specs.Units.{units_of}
use Rattle.arithmetic.proofs.Tests.{le-or}

-- ---- of at most 53 digits before its zeros

pub record Placed (x : Float) : Type 0 where
  pub m : ℕ
  pub j : ℕ
  pub small : m < 2 ^ 53
  pub is : Equals x (m * 2 ^ j) (2 ^ 1074)

rejoined : (a l : ℕ) → a ≤ l → l - a + a ≡ l
rejoined a l h = omega arith

place : (m : ℕ) (e : ℤ) → down e ≤ 2 ^ 1074 → (j : ℕ) × (m * up e * 2 ^ 1074 ≡ m * 2 ^ j * down e)
place m (pos a) h = (
  a + 1074,
  mul_assoc m (2 ^ a) (2 ^ 1074) ∙ ap (λ (x : ℕ). m * x) (sym (pow-add 2 a 1074)) ∙ sym (mul-one (m * 2 ^ (a + 1074))),
)
place m (negsuc a) h =
    elim (le-or (suc a) 1074) [
      | inl g ↦ (
        1074 - suc a,
        ap (λ (x : ℕ). x * 2 ^ 1074) (mul-one m)
            ∙ ap (λ (x : ℕ). m * x) (ap (λ (x : ℕ). 2 ^ x) (sym (rejoined (suc a) 1074 g)) ∙ pow-add 2 (1074 - suc a) (suc a))
            ∙ sym (mul_assoc m (2 ^ (1074 - suc a)) (2 ^ suc a)),
      )
      | inr g ↦ absurd (not-le_of_lt (pow-lt g) h)
    ]

placed_fin : (s : Bool) (m : ℕ) (e : ℤ) → T (fits binary64 (fin s m e)) → Placed (fin s m e)
unfolding fits
placed_fin s zero e t = record {
  m = 0;
  j = 0;
  small = lit< tt;
  is = ap (λ (x : ℕ). x * 2 ^ 1074) (zero-mul (up e)) ∙ sym (zero-mul (down e));
}
placed_fin s (suc n) e t =
    let m = suc n in
    let A = eqb (m % 2) 1 in
    let B = ltb m (2 ^ 53) in
    let C = leb (down e) (2 ^ 1074) in
    let D = ltb (m * up e) (2 ^ 1024 * down e) in
    let w : m < 2 ^ 53 = ltb→lt m (2 ^ 53) (and_r A B (and_l (A && B) C (and_l (A && B && C) D t))) in
    let l : down e ≤ 2 ^ 1074 = leb→le (down e) (2 ^ 1074) (and_r (A && B) C (and_l (A && B && C) D t)) in
    let p = place m e l in
    record { m = m; j = p.0; small = w; is = p.1 }

pub placed : (x : Float) → T (fits binary64 x) → T (finite x) → Placed x
placed nan t f = absurd f
placed (inf s) t f = absurd f
placed (fin s m e) t f = placed_fin s m e t

-- ---- so its units are its size

pub equals-units : (x : Float) (a : ℕ) → Equals x a (2 ^ 1074) → units_of x ≡ a
unfolding units_of
equals-units nan a h = absurd h
equals-units (inf s) a h = absurd h
equals-units (fin s m e) a h = ap (λ (n : ℕ). n / down e) h ∙ mul-div_cancel a (down_pos e)

pub units-are : (x : Float) → T (fits binary64 x) → T (finite x) → Equals x (units_of x) (2 ^ 1074)
units-are x t f =
    let p = placed x t f in
    subst (λ (a : ℕ). Equals x a (2 ^ 1074)) (sym (equals-units x (p.m * 2 ^ p.j) p.is)) p.is

pub value-units : (x : Float) (s : Bool) (a : ℕ) → HasValue x s a (2 ^ 1074) → units_of x ≡ a
value-units x s a v = equals-units x a (equals x v)
  where
    equals : (x : Float) → HasValue x s a (2 ^ 1074) → Equals x a (2 ^ 1074)
    equals nan v = v
    equals (inf t) v = v
    equals (fin t m e) v = v.1
