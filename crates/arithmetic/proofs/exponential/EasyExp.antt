-- Where v is easy, exp's k is the whole number nearest to v over ln 2: Nearest, for u = 1/ln 2·v.
use Rattle.std.proofs.Common.{◌≡◌, ℕ, zero, suc, ◌+◌, ◌*◌, ◌^◌, ◌<◌, ◌≤◌, Bool, true, false, cond, ◌&&◌, T, eqb, ltb, leb, ◌⊎◌, ℤ, pos, negsuc, sym, refl, ap, ◌∙◌, subst, inl, inr, mul_assoc, mul-pos, one-mul, zero-mul, arith, lit<, lit≤, le→leb, eqb→eq, ltb→lt, lt→ltb, leb→le, pow_pos, w32, w64, SFits, to_z, of_z, le-ltb, lt-ltb}
use lib.Signed.{le_z, lt_z, mag}
use mir.ValLaws.{to_z-of_z}
use lib.Ieee.{Float, nan, inf, fin, binary64, up, down, unlike, round, sum, add, sub, mul, neg, lt, le, is_nan, of_int, to_signed, in_signed, in_float}
use lib.Ieee.Fits.{up_pos, down_pos, and_l, and_i}
use lib.Ieee.Scale.{round_same}
use lib.Ieee.Back.{positive_back, negative_back}
use Rattle.arithmetic.specs.Floats.{◌⊕◌, ◌⊖◌, ◌⊗◌, half, dec}
use Rattle.arithmetic.specs.Units.{signed}
use Rattle.arithmetic.specs.Exponential.{reciprocal, rounding, exponent, highest, lowest}
use Rattle.arithmetic.specs.Steps.Nearest.{nearest, margin, Easy}
use Rattle.arithmetic.proofs.Within.{Within, mul-within, or_split, le→fractions}
use Rattle.arithmetic.proofs.exponential.Cutting.{reciprocal-within}
use Rattle.arithmetic.proofs.Powers.{half_is}
use Rattle.arithmetic.proofs.exponential.Rounding.{round-sign}
use Rattle.arithmetic.proofs.exponential.NearestLaws.{near, near_apart, cut_rounded}

-- ---- v is within 500

easy_within : (v : Float) → Easy v → Within 500 v
unfolding le
easy_within nan h = absurd h.least
easy_within (inf true) h = absurd h.least
easy_within (inf false) h = absurd h.most
easy_within (fin true m e) h =
    elim (or_split (ltb (m * up e * 1) (125 * 2 ^ 2 * down e)) _ h.least) [
      | inl p ↦ let l = ltb→lt (m * up e * 1) (125 * 2 ^ 2 * down e) p in omega arith
      | inr p ↦ let l = eqb→eq (125 * 2 ^ 2 * down e) (m * up e * 1) (and_l (eqb (125 * 2 ^ 2 * down e) (m * up e * 1)) _ p) in omega arith
    ]
easy_within (fin false m e) h = let l = le→fractions m 125 e (pos 2) h.most in omega arith

-- ---- the product with 1/ln 2 has v's sign

reciprocal_is : reciprocal ≡ fin false 3248660424278399 (negsuc 50)
unfolding reciprocal dec round
reciprocal_is = refl

own_sign : (s : Bool) → unlike false s ≡ s
own_sign true = refl
own_sign false = refl

product : (s : Bool) (m : ℕ) (e : ℤ) → reciprocal ⊗ fin s m e ≡ round binary64 s (3248660424278399 * 1 * (m * up e)) (2 ^ 51 * down e)
unfolding mul
product s m e = rw (reciprocal_is, own_sign s) refl

-- ---- v over ln 2, moved by a half away from zero

moved_by : (s : Bool) (m : ℕ) (e : ℤ) → fin s m e ⊕ cond s (neg (fin false 1 (negsuc 0))) (fin false 1 (negsuc 0)) ≡ round binary64 s (m * up e * 2 + down e) (down e * 2)
unfolding add sum neg
moved_by true m e = rw (one-mul (down e)) refl
moved_by false m e = rw (one-mul (down e)) refl

moved : (s : Bool) (m : ℕ) (e : ℤ) → fin s m e ⊕ cond s (neg half) half ≡ round binary64 s (m * up e * 2 + down e) (down e * 2)
moved s m e = rw half_is (moved_by s m e)

-- ---- k

pub record Found (v : Float) : Type 0 where
  pub is : nearest (reciprocal ⊗ v) ≡ of_int binary64 (exponent v)
  pub small : T (le_z (negsuc 1021) (exponent v) && le_z (exponent v) (pos 1023))

-- a whole number with either sign, if it is 0
same-signed : (s t : Bool) (k : ℕ) → (k ≡ 0) ⊎ (s ≡ t) → signed s k ≡ signed t k
same-signed s t k (inr h) = ap (λ (z : Bool). signed z k) h
same-signed true true k (inl h) = refl
same-signed false false k (inl h) = refl
same-signed true false k (inl h) = rw h refl
same-signed false true k (inl h) = rw h refl

signed-small : (s : Bool) (k : ℕ) → k ≤ 1001 → T (le_z (negsuc 1021) (signed s k) && le_z (signed s k) (pos 1023))
signed-small true zero h = tt
signed-small true (suc k) h = and_i (leb k 1021) true (le→leb k 1021 (omega arith)) tt
signed-small false k h = le→leb k 1023 (omega arith)

module _ (v : Float) (easy : Easy v) (s : Bool) (turn : rounding v ≡ cond s (neg half) half) where
  found_by : (m : ℕ) (e : ℤ) → reciprocal ⊗ v ≡ fin s m e → Found v
  unfolding exponent
  found_by m e u =
      let w : Within 1000 (fin s m e) = subst (Within 1000) u (mul-within 2 500 reciprocal v reciprocal-within (easy_within v easy) (lit≤ tt)) in
      let n = near s m e w in
      let a = near_apart s m e (nearest (fin s m e)) n (subst (λ (z : Float). T (lt (neg margin) (z ⊖ nearest z))) u easy.above) (subst (λ (z : Float). T (lt (z ⊖ nearest z) margin)) u easy.below) in
      let k = n.k in
      let d = down_pos e in
      let o : k * (down e * 2) ≡ k * down e * 2 = sym (mul_assoc k (down e) 2) in
      let over = a.over in
      let under = a.under in
      let cut : to_signed 63 (reciprocal ⊗ v ⊕ rounding v) ≡ signed s k =
      ap (λ (z : Float). to_signed 63 z) (rw (u, turn) (moved s m e))
      ∙ cut_rounded (m * up e * 2 + down e) (down e * 2) k (omega arith) n.most (omega arith) (omega arith) s in
      record {
        is = ap nearest u ∙ n.is ∙ ap (of_int binary64) (sym (same-signed s n.t k a.same) ∙ sym cut);
        small = rw cut (signed-small s k n.most);
      }

  found-sign : (m : ℕ) (e : ℤ) → v ≡ fin s m e → Found v
  found-sign m e q = go (reciprocal ⊗ v) refl (mul-within 2 500 reciprocal v reciprocal-within (easy_within v easy) (lit≤ tt))
    where
      go : (x : Float) → reciprocal ⊗ v ≡ x → Within 1000 x → Found v
      go nan u w = absurd w
      go (inf t) u w = absurd w
      go (fin t n d) u w =
          let r : t ≡ s = round-sign s (3248660424278399 * 1 * (m * up e)) (2 ^ 51 * down e) t n d (sym (product s m e) ∙ ap (λ (z : Float). reciprocal ⊗ z) (sym q) ∙ u) in
          found_by n d (u ∙ ap (λ (z : Bool). fin z n d) r)

-- -0
minus_zero : (e : ℤ) → reciprocal ⊗ fin true 0 e ≡ fin true 0 (pos 0)
minus_zero e = product true 0 e ∙ rw (zero-mul (up e)) (round_same binary64 true 0 (2 ^ 51 * down e) 0 1 (mul-pos (pow_pos 51) (down_pos e)) (lit< tt) (zero-mul 1 ∙ sym (zero-mul (2 ^ 51 * down e)))) ∙ zero_is
  where
    zero_is : round binary64 true 0 1 ≡ fin true 0 (pos 0)
    zero_is = unfold round in refl

zero_nearest : nearest (fin true 0 (pos 0)) ≡ of_int binary64 (pos 0)
unfolding nearest of_int sub add sum neg round
zero_nearest = refl

zero_cut : to_signed 63 (fin true 0 (pos 0) ⊕ half) ≡ pos 0
unfolding to_signed add sum half dec round
zero_cut = refl

no_turn : (m : ℕ) (e : ℤ) → rounding (fin false m e) ≡ half
unfolding rounding lt
no_turn m e = rw (le-ltb (m * up e * 1) (0 * 1 * down e) (omega arith)) refl

a_turn : (m : ℕ) (e : ℤ) → rounding (fin true (suc m) e) ≡ neg half
unfolding rounding lt
a_turn m e = let p : 0 < suc m * up e = mul-pos (omega arith) (up_pos e) in rw (lt-ltb 0 (suc m * up e * 1 + 0 * 1 * down e) (omega arith)) refl

no_turn_zero : (e : ℤ) → rounding (fin true 0 e) ≡ half
unfolding rounding lt
no_turn_zero e = rw (le-ltb 0 (0 * up e * 1 + 0 * 1 * down e) (omega arith)) refl

pub found : (v : Float) → Easy v → Found v
found nan h = absurd (easy_within nan h)
found (inf s) h = absurd (easy_within (inf s) h)
found (fin false m e) h = found-sign (fin false m e) h false (no_turn m e) m e refl
found (fin true (suc m) e) h = found-sign (fin true (suc m) e) h true (a_turn m e) (suc m) e refl
found (fin true zero e) h =
    let k : exponent (fin true 0 e) ≡ pos 0 = unfold exponent in rw (minus_zero e, no_turn_zero e) zero_cut in
    record { is = ap nearest (minus_zero e) ∙ zero_nearest ∙ ap (of_int binary64) (sym k); small = rw k tt }

-- ---- k from the float

mag_small : (z : ℤ) → T (le_z (negsuc 1021) z && le_z z (pos 1023)) → mag z < 1024
mag_small (pos n) h = let l = leb→le n 1023 h in omega arith
mag_small (negsuc n) h = let l = leb→le n 1021 (and_l (leb n 1021) true h) in omega arith

pub unscaled : (z : ℤ) → T (le_z (negsuc 1021) z && le_z z (pos 1023)) → (lt_z (pos 1023) z ≡ false) × (lt_z z (negsuc 1021) ≡ false)
unscaled (pos n) h = let l = leb→le n 1023 h in (le-ltb 1023 n (omega arith), refl)
unscaled (negsuc n) h = let l = leb→le n 1021 (and_l (leb n 1021) true h) in (refl, le-ltb 1021 n (omega arith))

whole_back : (z : ℤ) → T (le_z (negsuc 1021) z && le_z z (pos 1023)) → T (in_signed binary64 31 (of_int binary64 z)) × (to_signed 31 (of_int binary64 z) ≡ z)
unfolding in_float
whole_back (pos n) h = let l = leb→le n 1023 h in positive_back binary64 31 n (le→leb n (2 ^ 53) (omega arith)) (omega arith)
whole_back (negsuc n) h = let l = leb→le n 1021 (and_l (leb n 1021) true h) in negative_back binary64 31 n (lt→ltb n (2 ^ 53) (omega arith)) (omega arith)

module _ (v : Float) (f : Found v) (x : Float) (q : x ≡ nearest (reciprocal ⊗ v)) where
  at-k : x ≡ of_int binary64 (exponent v)
  at-k = q ∙ f.is

  pub as_whole : T (in_signed binary64 31 x)
  as_whole = rw at-k (whole_back (exponent v) f.small).0

  pub whole_is : to_signed 31 x ≡ exponent v
  whole_is = rw at-k (whole_back (exponent v) f.small).1

  pub word-is : to_z w32 (of_z w32 (to_signed 31 x)) ≡ exponent v
  word-is = rw whole_is (to_z-of_z w32 (exponent v) (record { sfits = let m = mag_small (exponent v) f.small in omega arith }))

  pub wide_is : to_z w64 (of_z w64 (to_z w32 (of_z w32 (to_signed 31 x)))) ≡ exponent v
  wide_is = rw word-is (to_z-of_z w64 (exponent v) (record { sfits = let m = mag_small (exponent v) f.small in omega arith }))

  pub wide_fits : SFits w64 (to_z w32 (of_z w32 (to_signed 31 x)))
  wide_fits = rw word-is (record { sfits = let m = mag_small (exponent v) f.small in omega arith })

-- ---- an easy v takes one of the last two lines of exp

pub easy_plain : (v : Float) → Easy v → (is_nan v ≡ false) × (lt highest v ≡ false) × (lt v lowest ≡ false)
unfolding is_nan lt highest lowest dec round
easy_plain v h = go v (easy_within v h)
  where
    go : (v : Float) → Within 500 v → (is_nan v ≡ false) × (lt highest v ≡ false) × (lt v lowest ≡ false)
    go nan w = absurd w
    go (inf s) w = absurd w
    go (fin true m e) w = (refl, refl, le-ltb (6554261109157969 * 1 * down e) (m * up e * 8796093022208) (omega arith))
    go (fin false m e) w = (refl, le-ltb (6243314768165359 * 1 * down e) (m * up e * 8796093022208) (omega arith), refl)
