-- A text of the form is read as its number, rounded, or refused with 13; any other is refused with 12.
use Rattle.std.proofs.Common.{◌≡◌, ℕ, suc, ◌+◌, ◌<◌, ◌≤◌, Bool, true, false, cond, eqb, ◌⊎◌, List, [], ◌∷◌, ◌++◌, length, get_or, take, drop, sym, refl, ap, ◌∙◌, subst, inl, inr, add-zero, le_antisymm, add-one, arith, length-append, length-take-le, take_at, ne_eqb, eqb-true}
use mathlib.Core.Bool.{false≢true}
use lib.Seq.{get_or_at, take-length, split_at}
use borrow.Author.Tests.{eqb-false}
use Rattle.arithmetic.specs.Refusals.{Refused}
use Rattle.arithmetic.specs.Floats.{dec}
use Rattle.arithmetic.specs.Decimals.{is_digit, leading, valued, digits_field, pointed_field, unsigned_field, field_of}
use Rattle.arithmetic.specs.FieldForms.{AllDigits, sign, FieldForm, whole, pointed, FieldRounds, FieldTooLong, FieldElse}
use Rattle.arithmetic.proofs.Tests.{either, le-or}
use Rattle.arithmetic.proofs.decimals.Texts.{leading_le, fifteen}
use Rattle.arithmetic.proofs.decimals.NoTie.{dec_rounded}
use Rattle.arithmetic.proofs.decimals.Cases.{too_long, few, pointed-none, pointed-other, pointed-digits, unsigned_none, unsigned_whole, unsigned_other, unsigned_point}

-- ---- digits that stand first

leading-all : (a c : List ℕ) → AllDigits a → leading (a ++ c) ≡ length a + leading c
unfolding leading
leading-all [] c d = omega arith
leading-all (b ∷ a) c d = rw d.0 (let e = leading-all a c d.1 in omega arith)

leading-only : (a : List ℕ) → AllDigits a → leading a ≡ length a
unfolding leading
leading-only [] d = refl
leading-only (b ∷ a) d = rw d.0 (ap suc (leading-only a d.1))

leading_point : (b : List ℕ) → leading (46 ∷ b) ≡ 0
unfolding leading
leading_point b = refl

leading-digits : (l : List ℕ) → AllDigits (take (leading l) l)
unfolding leading
leading-digits [] = tt
leading-digits (b ∷ l) = go (is_digit b) refl (leading-digits l)
  where
    go : (t : Bool) → is_digit b ≡ t → AllDigits (take (leading l) l) → AllDigits (take (cond t (suc (leading l)) 0) (b ∷ l))
    go true e d = (e, d)
    go false e d = tt

all_digits : (l : List ℕ) → leading l ≡ length l → AllDigits l
all_digits l e = subst AllDigits (ap (λ (k : ℕ). take k l) e ∙ take-length l) (leading-digits l)

-- ---- a text of the form

of_whole : (s : Bool) (a : List ℕ) → AllDigits a → 0 < length a → unsigned_field s a ≡ digits_field s a []
of_whole s a d h = let e = leading-only a d in sym (unsigned_whole s a (omega arith) e)

module _ (s : Bool) (a b : List ℕ) (d : AllDigits a) (h : 0 < length a) (f : AllDigits b) (g : 0 < length b) where
  abbrev l : List ℕ
  l = a ++ 46 ∷ b

  first-is : leading l ≡ length a
  first-is = leading-all a (46 ∷ b) d ∙ ap (λ (k : ℕ). length a + k) (leading_point b) ∙ add-zero (length a)

  past_point : (a : List ℕ) → drop (suc (length a)) (a ++ 46 ∷ b) ≡ b
  past_point [] = refl
  past_point (x ∷ a) = past_point a

  of_pointed : unsigned_field s l ≡ digits_field s a b
  of_pointed =
      let e = first-is in
      let n : length l ≡ length a + suc (length b) = length-append a (46 ∷ b) in
      let p : get_or l (leading l) 0 ≡ 46 = ap (λ (k : ℕ). get_or l k 0) e ∙ get_or_at a 46 b 0 (length a) refl in
      let t : take (leading l) l ≡ a = ap (λ (k : ℕ). take k l) e ∙ take_at a (46 ∷ b) (length a) refl in
      let r : drop (leading l + 1) l ≡ b = ap (λ (k : ℕ). drop k l) (add-one (leading l) ∙ ap suc e) ∙ past_point a in
      let q = leading-only b f in
      sym (unsigned_point s l (omega arith) (omega arith) p)
      ∙ ap (λ (x : List ℕ). pointed_field s x (drop (leading l + 1) l)) t
      ∙ ap (pointed_field s a) r
      ∙ sym (pointed-digits s a b (omega arith) q)

field-minus : (l : List ℕ) → field_of (45 ∷ l) ≡ unsigned_field true l
unfolding field_of
field-minus l = refl

field_plain : (b : ℕ) (l : List ℕ) → (b ≡ 45 → ⊥) → field_of (b ∷ l) ≡ unsigned_field false (b ∷ l)
unfolding field_of
field_plain b l h = rw (ne_eqb b 45 h)

no_minus : (b : ℕ) → is_digit b ≡ true → b ≡ 45 → ⊥
no_minus b d e = false≢true (ap is_digit (sym e) ∙ d)

pub reads : {l : List ℕ} {s : Bool} {a b : List ℕ} → FieldForm l s a b → field_of l ≡ digits_field s a b
reads (whole true a d h) = field-minus a ∙ of_whole true a d h
reads (whole false [] d h) = absurd (omega arith)
reads (whole false (x ∷ a) d h) = field_plain x a (no_minus x d.0) ∙ of_whole false (x ∷ a) d h
reads (pointed true a b d h f g) = field-minus (a ++ 46 ∷ b) ∙ of_pointed true a b d h f g
reads (pointed false [] b d h f g) = absurd (omega arith)
reads (pointed false (x ∷ a) b d h f g) = field_plain x (a ++ 46 ∷ b) (no_minus x d.0) ∙ of_pointed false (x ∷ a) b d h f g

-- ---- any other text

abbrev Formed : List ℕ → Bool → Type 0
Formed l s = (a : List ℕ) × (b : List ℕ) × FieldForm l s a b

module _ (s : Bool) (l : List ℕ) where
  abbrev Only : Type 0
  Only = (unsigned_field s l ≡ Refused 12) ⊎ Formed (sign s l) s

  module _ (some : 0 < leading l) where
    only-whole : length l ≤ leading l → Only
    only-whole h =
        let e : leading l ≡ length l = le_antisymm (leading_le l) h in inr (l, [], whole s l (all_digits l e) (omega arith))

    module _ (m : leading l < length l) (p : get_or l (leading l) 0 ≡ 46) where
      abbrev a : List ℕ
      a = take (leading l) l

      abbrev b : List ℕ
      b = drop (leading l + 1) l

      parts : a ++ 46 ∷ b ≡ l
      parts =
          ap (λ (k : ℕ). a ++ 46 ∷ drop k l) (add-one (leading l))
          ∙ ap (λ (k : ℕ). a ++ k ∷ drop (suc (leading l)) l) (sym p)
          ∙ sym (split_at l (leading l) 0 m)

      form : 0 < leading b → length b ≤ leading b → FieldForm (sign s l) s a b
      form k w =
          let e : leading b ≡ length b = le_antisymm (leading_le b) w in
          let n : length a ≡ leading l = length-take-le (leading l) l (omega arith) in
          subst (λ (x : List ℕ). FieldForm (sign s x) s a b) parts
          (pointed s a b (leading-digits l) (omega arith) (all_digits b e) (omega arith))

      only-pointed : Only
      only-pointed =
          let e = unsigned_point s l some m p in
          elim (le-or (leading b) 0) [
            | inl z ↦ inl (sym e ∙ sym (pointed-none s a b (omega arith)))
            | inr k ↦ elim (le-or (length b) (leading b)) [ inl w ↦ inr (a, b, form k w) | inr n ↦ inl (sym e ∙ sym (pointed-other s a b k n)) ]
          ]

    only-rest : leading l < length l → Only
    only-rest m =
        elim (either (eqb (get_or l (leading l) 0) 46)) [
          | inl p ↦ only-pointed m (eqb-true (get_or l (leading l) 0) 46 p)
          | inr p ↦ inl (sym (unsigned_other s l some m (eqb-false (get_or l (leading l) 0) 46 p)))
        ]

  only : Only
  only =
      elim (le-or (leading l) 0) [
        | inl z ↦ inl (sym (unsigned_none s l (omega arith)))
        | inr some ↦ elim (le-or (length l) (leading l)) [ inl w ↦ only-whole some w | inr m ↦ only-rest some m ]
      ]

abbrev Else : List ℕ → Type 0
Else l = (field_of l ≡ Refused 12) ⊎ ((s : Bool) × (a : List ℕ) × (b : List ℕ) × FieldForm l s a b)

named : (s : Bool) (l : List ℕ) → field_of (sign s l) ≡ unsigned_field s l → Only s l → Else (sign s l)
named s l e (inl h) = inl (e ∙ h)
named s l e (inr f) = inr (s, f.0, f.1, f.2)

field-none : field_of [] ≡ Refused 12
unfolding field_of unsigned_field leading
field-none = refl

pub field_else : FieldElse
field_else [] = inl field-none
field_else (b ∷ l) =
    elim (either (eqb b 45)) [
      | inl h ↦ subst (λ (x : ℕ). Else (x ∷ l)) (sym (eqb-true b 45 h)) (named true l (field-minus l) (only true l))
      | inr h ↦ named false (b ∷ l) (field_plain b l (eqb-false b 45 h)) (only false (b ∷ l))
    ]

-- ---- by the number of digits

first_some : {l : List ℕ} {s : Bool} {a b : List ℕ} → FieldForm l s a b → 0 < length a
first_some (whole s a d h) = h
first_some (pointed s a b d h f g) = h

pub field-rounds : FieldRounds
field-rounds l s a b f h =
    let n = valued (valued 0 a) b in
    let d : length b < 15 = let k = first_some f in omega arith in
    (dec s n (length b), reads f ∙ sym (few s a b h), dec_rounded n (length b) (fifteen a b h) d s)

pub field_too_long : FieldTooLong
field_too_long l s a b f h = reads f ∙ sym (too_long s a b h)
