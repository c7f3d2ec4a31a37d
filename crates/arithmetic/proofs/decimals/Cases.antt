-- What each return of the code is, over plain lists and numbers.
use Rattle.std.proofs.Common.{◌≡◌, ℕ, Float, ◌+◌, ◌-◌, ◌<◌, ◌≤◌, Bool, true, false, cond, List, [], ◌∷◌, length, get_or, take, drop, sym, ap, ◌∙◌, le_of_eq, arith, take_all, length-drop, eqb, eq-eqb, ne_eqb, le-leb}
use lib.Pointwise.{pointwise}
use lib.Seq.{drop-length}
use native.Mathlib.Nat.{add-zero}
use Rattle.std.proofs.Math.Bool.{and-true}
use Rattle.std.proofs.lemmas.List.{get_or-drop, drop-drop}
use borrow.Author.Tests.{eqb-true, eqb-false}
use Rattle.arithmetic.proofs.decimals.Texts.{leading_le}
use borrow.Author.Tests.{lt-leb}
use Rattle.arithmetic.specs.Refusals.{Answer, Value, Refused}
use Rattle.arithmetic.specs.Floats.{dec}
use Rattle.arithmetic.specs.Decimals.{leading, valued, digits_field, pointed_field, unsigned_field, field_of}

not_0 : (n : ℕ) → 0 < n → n ≡ 0 → ⊥
not_0 n h z = omega arith

not_all : (i n : ℕ) → i < n → i ≡ n → ⊥
not_all i n h z = omega arith

-- whether a text begins with a byte
abbrev pub starts_with : List ℕ → ℕ → Bool
starts_with l b = pointwise eqb (take 1 l) (b ∷ [])

pub starts_at : (l : List ℕ) (b : ℕ) → 0 < b → starts_with l b ≡ eqb (get_or l 0 0) b
starts_at [] b h = sym (ne_eqb 0 b (λ e. omega arith))
starts_at (x ∷ l) b h = and-true _

-- ---- digits

module _ (s : Bool) (a b : List ℕ) where
  -- by whether there are at most 15
  of_length : Bool → Answer Float
  of_length t = cond t (Value (dec s (valued (valued 0 a) b) (length b))) (Refused 13)

  pub too_long : 15 < length a + length b → Refused 13 ≡ digits_field s a b
  unfolding of_length digits_field
  too_long h = sym (ap of_length (lt-leb (length a + length b) 15 h))

  pub few : length a + length b ≤ 15 → Value (dec s (valued (valued 0 a) b) (length b)) ≡ digits_field s a b
  unfolding of_length digits_field
  few h = sym (ap of_length (le-leb (length a + length b) 15 h))

  -- ---- pointed

  pub pointed-none : leading b ≡ 0 → Refused 12 ≡ pointed_field s a b
  unfolding pointed_field
  pointed-none z = rw (eq-eqb (leading b) 0 z)

  module _ (some : 0 < leading b) where
    pub pointed-other : leading b < length b → Refused 12 ≡ pointed_field s a b
    unfolding pointed_field
    pointed-other m = rw (ne_eqb (leading b) 0 (not_0 (leading b) some), ne_eqb (leading b) (length b) (not_all (leading b) (length b) m))

    pub pointed-digits : leading b ≡ length b → digits_field s a b ≡ pointed_field s a b
    unfolding pointed_field
    pointed-digits m = rw (ne_eqb (leading b) 0 (not_0 (leading b) some), eq-eqb (leading b) (length b) m)

-- ---- unsigned

module _ (s : Bool) (l : List ℕ) where
  pub unsigned_none : leading l ≡ 0 → Refused 12 ≡ unsigned_field s l
  unfolding unsigned_field
  unsigned_none z = rw (eq-eqb (leading l) 0 z)

  module _ (some : 0 < leading l) where
    pub unsigned_whole : leading l ≡ length l → digits_field s l [] ≡ unsigned_field s l
    unfolding unsigned_field
    unsigned_whole m = rw (ne_eqb (leading l) 0 (not_0 (leading l) some), eq-eqb (leading l) (length l) m)

    module _ (m : leading l < length l) where
      pub unsigned_other : (get_or l (leading l) 0 ≡ 46 → ⊥) → Refused 12 ≡ unsigned_field s l
      unfolding unsigned_field
      unsigned_other p = rw (
        ne_eqb (leading l) 0 (not_0 (leading l) some),
        ne_eqb (leading l) (length l) (not_all (leading l) (length l) m),
        ne_eqb (get_or l (leading l) 0) 46 p,
      )

      pub unsigned_point : get_or l (leading l) 0 ≡ 46 → pointed_field s (take (leading l) l) (drop (leading l + 1) l) ≡ unsigned_field s l
      unfolding unsigned_field
      unsigned_point p = rw (
        ne_eqb (leading l) 0 (not_0 (leading l) some),
        ne_eqb (leading l) (length l) (not_all (leading l) (length l) m),
        eq-eqb (get_or l (leading l) 0) 46 p,
      )

-- over the parts of the text, cut after its leading digits
module _ (s : Bool) (l : List ℕ) {a b : List ℕ} (n : leading l ≡ 0 → ⊥) (before : a ≡ take (leading l) l) (after : b ≡ drop (leading l) l) where
  some : 0 < leading l
  some = omega arith

  left : length b ≡ length l - leading l
  left = ap length after ∙ length-drop (leading l) l

  pub whole-text : true ≡ eqb (length b) 0 → digits_field s a b ≡ unsigned_field s l
  whole-text z =
      let e : length b ≡ 0 = eqb-true (length b) 0 (sym z) in
      let m : leading l ≡ length l = let k = leading_le l in let d = left in omega arith in
      ap (λ (x : List ℕ). digits_field s x b) (before ∙ take_all (leading l) l (le_of_eq (sym m)))
      ∙ ap (digits_field s l) (after ∙ ap (λ (k : ℕ). drop k l) m ∙ drop-length l)
      ∙ unsigned_whole s l some m

  module _ (z : false ≡ eqb (length b) 0) where
    inside : leading l < length l
    inside = let e = eqb-false (length b) 0 (sym z) in let d = left in omega arith

    first : (t : Bool) → starts_with b 46 ≡ t → eqb (get_or l (leading l) 0) 46 ≡ t
    first t e =
        ap (λ (x : ℕ). eqb x 46) (ap (λ (k : ℕ). get_or l k 0) (sym (add-zero (leading l))) ∙ sym (get_or-drop (leading l) l 0 0) ∙ ap (λ (x : List ℕ). get_or x 0 0) (sym after))
        ∙ sym (starts_at b 46 (omega arith))
        ∙ e

    pub other_byte : starts_with b 46 ≡ false → Refused 12 ≡ unsigned_field s l
    other_byte e = unsigned_other s l some inside (eqb-false (get_or l (leading l) 0) 46 (first false e))

    pub behind-point : starts_with b 46 ≡ true → pointed_field s a (drop 1 b) ≡ unsigned_field s l
    behind-point e =
        ap (λ (x : List ℕ). pointed_field s x (drop 1 b)) before
        ∙ ap (pointed_field s (take (leading l) l)) (ap (drop 1) after ∙ drop-drop 1 (leading l) l)
        ∙ unsigned_point s l some inside (eqb-true (get_or l (leading l) 0) 46 (first true e))

-- ---- read

module _ (l : List ℕ) where
  pub read_minus : starts_with l 45 ≡ true → unsigned_field true (drop 1 l) ≡ field_of l
  unfolding field_of
  read_minus h = rw (sym (starts_at l 45 (omega arith)) ∙ h)

  pub read_plain : starts_with l 45 ≡ false → unsigned_field false l ≡ field_of l
  unfolding field_of
  read_plain h = rw (sym (starts_at l 45 (omega arith)) ∙ h)
