-- Fields one after the other, each with what ends it: a text of so many fields is accepted exactly if it is spelled so.
use mathlib.Core.Path.{◌≡◌, refl, sym, ap, ◌∙◌, subst}
use mathlib.Core.Logic.{inl, inr}
use mathlib.Core.Bool.{Bool, true, false, cond, false≢true}
use mathlib.Core.List.{List, [], ◌∷◌, ◌++◌, append_assoc}
use Prim.Native.Nat.{ℕ, zero, suc, ◌+◌, ◌%◌, ◌≤◌}
use native.Mathlib.Numerals.{add-one}
use native.Mathlib.Omega.{arith}
use lib.Dec.{eqb}
use lib.ListN.{length, get_or, take, drop, length-append}
use lib.Seq.{take_at, get_or_at, split_at}
use lib.Ieee.{Float}
use borrow.Author.Tests.{eq-eqb, ne_eqb, eqb-true, le-leb}
use Rattle.arithmetic.specs.Refusals.{Answer, Value, Refused}
use Rattle.arithmetic.specs.Floats.{dec}
use Rattle.arithmetic.specs.Decimals.{is_digit, valued, digits_field, field_of, field_number, field_value, Rounded}
use Rattle.arithmetic.specs.FieldForms.{AllDigits, sign, FieldForm, whole, pointed}
use Rattle.arithmetic.proofs.Tests.{le-or}
use Rattle.arithmetic.proofs.decimals.Forms.{reads, field_else, field-rounds, field_too_long}
use Rattle.models.specs.Answers.{first}
use Rattle.models.specs.Suppliers.{comma, line_feed, ends, field_length, field, ending, rest}
use Rattle.models.specs.Suppliers.{separator, text_fault, text_values}
use Rattle.models.specs.SupplierForms.{Spelled, digits_of, value_as, row_values, ValueRounded}
use Rattle.models.proofs.suppliers.Turns.{fault_of_next, fault_of_none, values_of_next, values_of_none}
use Rattle.models.proofs.suppliers.Turns.{separator-some, past_end}

abbrev pub spelled : ℕ → List Spelled → List ℕ
spelled n [] = []
spelled n (f ∷ fs) = f.bytes ++ separator n (length fs) ∷ spelled n fs

-- ---- no byte of a field is a comma or a line feed

digit-is_not : (b c : ℕ) → is_digit b ≡ true → is_digit c ≡ false → b ≡ c → ⊥
digit-is_not b c d e q = false≢true (sym e ∙ ap is_digit (sym q) ∙ d)

digit-passes : (b : ℕ) → is_digit b ≡ true → ends b ≡ false
digit-passes b d = rw (ne_eqb b comma (digit-is_not b comma d refl), ne_eqb b line_feed (digit-is_not b line_feed d refl))

past_byte : (b : ℕ) (s : List ℕ) → ends b ≡ false → field_length (b ∷ s) ≡ suc (field_length s)
unfolding field_length
past_byte b s e = rw e

past-digits : (a s : List ℕ) → AllDigits a → field_length (a ++ s) ≡ length a + field_length s
past-digits [] s d = omega arith
past-digits (b ∷ a) s d = past_byte b (a ++ s) (digit-passes b d.0) ∙ (let i = past-digits a s d.1 in omega arith)

past-sign : (m : Bool) (l t : List ℕ) → field_length (l ++ t) ≡ length l →
    field_length (sign m l ++ t) ≡ length (sign m l)
past-sign true l t e = past_byte 45 (l ++ t) refl ∙ ap suc e
past-sign false l t e = e

-- a separator ends it
module _ (n m : ℕ) (t : List ℕ) where
  abbrev after : List ℕ
  after = separator n m ∷ t

  stops : field_length after ≡ 0
  unfolding field_length
  stops = by_test (eqb (m % n) 0)
    where
      by_test : (c : Bool) → cond (ends (cond c line_feed comma)) 0 (suc (field_length t)) ≡ 0
      by_test true = refl
      by_test false = refl

  digits_long : (a : List ℕ) → AllDigits a → field_length (a ++ after) ≡ length a
  digits_long a d = past-digits a after d ∙ (let z = stops in omega arith)

  pointed-long : (a b : List ℕ) → AllDigits a → AllDigits b →
      field_length ((a ++ 46 ∷ b) ++ after) ≡ length (a ++ 46 ∷ b)
  pointed-long a b d e =
      let point = past_byte 46 (b ++ after) refl in
      let behind = digits_long b e in
      ap field_length (append_assoc a (46 ∷ b) after)
      ∙ past-digits a (46 ∷ (b ++ after)) d
      ∙ omega (arith, length-append a (46 ∷ b))

  field-long : {l : List ℕ} {s : Bool} {a b : List ℕ} → FieldForm l s a b → field_length (l ++ after) ≡ length l
  field-long (whole s a d h) = past-sign s a after (digits_long a d)
  field-long (pointed s a b d h e g) = past-sign s (a ++ 46 ∷ b) after (pointed-long a b d e)

-- ---- a spelled text is accepted

few-digits : (s : Bool) (a b : List ℕ) → length a + length b ≤ 15 →
    digits_field s a b ≡ Value (dec s (valued (valued 0 a) b) (length b))
unfolding digits_field
few-digits s a b h = rw (le-leb (length a + length b) 15 h)

is_read : (f : Spelled) → field_of f.bytes ≡ Value (value_as f)
is_read f = reads f.form ∙ few-digits f.minus f.whole f.behind f.few

number_of : {a b : Float} → Value a ≡ Value b → a ≡ b
unfolding field_value
number_of e = ap field_value e

pub value_rounded : ValueRounded
value_rounded f =
    let w = field-rounds f.bytes f.minus f.whole f.behind f.form f.few in
    subst (Rounded f.minus (digits_of f) (length f.behind)) (number_of (sym w.1 ∙ is_read f)) w.2

module _ (n m : ℕ) (f : Spelled) (t : List ℕ) where
  abbrev s : List ℕ
  s = f.bytes ++ separator n m ∷ t

  long : field_length s ≡ length f.bytes
  long = field-long n m t f.form

  read_is : field_of (field s) ≡ Value (value_as f)
  read_is =
      let own : field s ≡ f.bytes =
      ap (λ (k : ℕ). take k s) long ∙ take_at f.bytes (separator n m ∷ t) (length f.bytes) refl in
      ap field_of own ∙ is_read f

  ending-is : ending s ≡ separator n m
  ending-is = ap (λ (k : ℕ). get_or s k 0) long ∙ get_or_at f.bytes (separator n m) t 0 (length f.bytes) refl

  rest-is : rest s ≡ t
  rest-is = ap (λ (k : ℕ). drop k s) (add-one (field_length s) ∙ ap suc long) ∙ go f.bytes
    where
      go : (a : List ℕ) → drop (suc (length a)) (a ++ separator n m ∷ t) ≡ t
      go [] = refl
      go (x ∷ a) = go a

  fault_on : text_fault n (suc m) s ≡ text_fault n m t
  unfolding field_number
  fault_on = fault_of_next n m s ∙ rw (read_is, ending-is, eq-eqb (separator n m) (separator n m) refl, rest-is)

  values_on : text_values (suc m) s ≡ value_as f ∷ text_values m t
  unfolding field_value
  values_on = values_of_next m s ∙ rw (read_is, rest-is)

pub spelled_faultless : (n : ℕ) (fs : List Spelled) → text_fault n (length fs) (spelled n fs) ≡ 0
spelled_faultless n [] = fault_of_none n []
spelled_faultless n (f ∷ fs) = fault_on n (length fs) f (spelled n fs) ∙ spelled_faultless n fs

pub spelled-values : (n : ℕ) (fs : List Spelled) → text_values (length fs) (spelled n fs) ≡ row_values fs
spelled-values n [] = values_of_none []
spelled-values n (f ∷ fs) =
    values_on n (length fs) f (spelled n fs) ∙ ap (λ (l : List Float). value_as f ∷ l) (spelled-values n fs)

-- ---- an accepted text is spelled so

pub both_0 : (k m : ℕ) → first k m ≡ 0 → (k ≡ 0) × (m ≡ 0)
both_0 zero m e = (refl, e)
both_0 (suc k) m e = let x = rw (ne_eqb (suc k) 0 (λ z. omega arith)) at e in absurd (omega arith)

or_12 : (b : Bool) (k : ℕ) → ◌≡◌ {A = ℕ} (cond b k 12) 0 → (b ≡ true) × (k ≡ 0)
or_12 true k e = (refl, e)
or_12 false k e = absurd (omega arith)

no_refusal : {x : Answer Float} {k : ℕ} → x ≡ Refused k → field_number x ≡ 0 → k ≡ 0
unfolding field_number
no_refusal e h = rw e at h

as_spelled : (l : List ℕ) → field_number (field_of l) ≡ 0 → (f : Spelled) × (f.bytes ≡ l)
as_spelled l h =
    elim (field_else l) [
      | inl e ↦ absurd (omega (arith, no_refusal e h))
      | inr r ↦
          elim (le-or (length r.1 + length r.2) 15) [
            | inl few ↦ (record { bytes = l; minus = r.0; whole = r.1; behind = r.2; form = r.3; few = few }, refl)
            | inr many ↦ absurd (omega (arith, no_refusal (field_too_long l r.0 r.1 r.2 r.3 many) h))
          ]
    ]

pub empty : {A : Type 0} (s : List A) → length s ≡ 0 → s ≡ []
empty [] h = refl
empty (b ∷ s) h = absurd (omega arith)

nothing-follows : (n : ℕ) (s : List ℕ) → text_fault n 0 s ≡ 0 → s ≡ []
nothing-follows n s h = empty s (eqb-true (length s) 0 (or_12 (eqb (length s) 0) 0 (sym (fault_of_none n s) ∙ h)).0)

-- a text whose first field ends as it has to is that field, what ends it and the rest
parted : (n m : ℕ) (s : List ℕ) → ending s ≡ separator n m → s ≡ field s ++ separator n m ∷ rest s
parted n m s e =
    elim (le-or (length s) (field_length s)) [
      | inl h ↦ absurd (separator-some n m (sym e ∙ past_end s (field_length s) h))
      | inr h ↦
          split_at s (field_length s) 0 h
          ∙ ap (λ (b : ℕ). field s ++ b ∷ drop (suc (field_length s)) s) e
          ∙ ap (λ (k : ℕ). field s ++ separator n m ∷ drop k s) (sym (add-one (field_length s)))
    ]

pub only-spelled : (n m : ℕ) (s : List ℕ) → text_fault n m s ≡ 0 →
    (fs : List Spelled) × (length fs ≡ m) × (s ≡ spelled n fs)
only-spelled n zero s h = ([], refl, nothing-follows n s h)
only-spelled n (suc m) s h =
    let p = both_0 _ _ (sym (fault_of_next n m s) ∙ h) in
    let q = or_12 (eqb (ending s) (separator n m)) (text_fault n m (rest s)) p.1 in
    let f = as_spelled (field s) p.0 in
    let i = only-spelled n m (rest s) q.1 in (
      f.0 ∷ i.0,
      ap suc i.1,
      parted n m s (eqb-true (ending s) (separator n m) q.0)
          ∙ ap (λ (l : List ℕ). l ++ separator n m ∷ rest s) (sym f.1)
          ∙ ap (λ (k : ℕ). f.0.bytes ++ separator n k ∷ rest s) (sym i.1)
          ∙ ap (λ (l : List ℕ). f.0.bytes ++ separator n (length i.0) ∷ l) i.2,
    )
