-- The fields in turn: what is known after k of them.
use mathlib.Core.Path.{◌≡◌, refl, sym, ap, ◌∙◌}
use mathlib.Core.Bool.{Bool, true, false, cond}
use mathlib.Core.List.{List, [], ◌∷◌, ◌++◌, append-nil}
use Prim.Native.Nat.{ℕ, zero, suc, ◌+◌, ◌-◌, ◌*◌, ◌%◌, ◌≤◌, ◌<◌}
use native.Mathlib.Numerals.{add-one}
use native.Mathlib.Omega.{arith}
use lib.Dec.{eqb}
use lib.ListN.{length, get_or, take, drop, set, length-drop}
use lib.Seq.{take-suc-set, append_snoc, get_or-drop, drop-drop}
use lib.Ieee.{Float}
use borrow.Author.Tests.{eq-eqb, ne_eqb}
use Rattle.arithmetic.specs.Refusals.{Answer, Value, Refused}
use Rattle.arithmetic.specs.Decimals.{field_of, field_number, field_value}
use Rattle.arithmetic.proofs.decimals.Refusals.{refused-some}
use Rattle.models.specs.Answers.{first}
use Rattle.models.specs.Suppliers.{comma, line_feed, field_length, field, ending, rest}
use Rattle.models.specs.Suppliers.{separator, text_fault, text_values}

-- ---- what a text comes to, by its first field

pub fault_of_next : (n m : ℕ) (s : List ℕ) → text_fault n (suc m) s
    ≡ first (field_number (field_of (field s))) (cond (eqb (ending s) (separator n m)) (text_fault n m (rest s)) 12)
unfolding text_fault
fault_of_next n m s = refl

pub fault_of_none : (n : ℕ) (s : List ℕ) → text_fault n 0 s ≡ cond (eqb (length s) 0) 0 12
unfolding text_fault
fault_of_none n s = refl

pub values_of_next : (m : ℕ) (s : List ℕ) →
    text_values (suc m) s ≡ field_value (field_of (field s)) ∷ text_values m (rest s)
unfolding text_values
values_of_next m s = refl

pub values_of_none : (s : List ℕ) → text_values 0 s ≡ []
unfolding text_values
values_of_none s = refl

-- a separator isn't 0, which stands for the text's end
pub separator-some : (n m : ℕ) → separator n m ≡ 0 → ⊥
separator-some n m = by_test (eqb (m % n) 0)
  where
    by_test : (t : Bool) → ◌≡◌ {A = ℕ} (cond t line_feed comma) 0 → ⊥
    by_test true e = omega arith
    by_test false e = omega arith

pub past_end : (s : List ℕ) (k : ℕ) → length s ≤ k → get_or s k 0 ≡ 0
past_end [] k h = refl
past_end (b ∷ s) zero h = absurd (omega arith)
past_end (b ∷ s) (suc k) h = past_end s k (omega arith)

-- ---- k fields are read, up to the place `at`, and stand in g: the text's fault is that of the fields to come, and its
-- values are those read and those to come
pub record Left (n : ℕ) (s : List ℕ) (g : List Float) (k at : ℕ) : Type 0 where
  pub fault : text_fault n (n * n) s ≡ text_fault n (n * n - k) (drop at s)
  pub values : text_values (n * n) s ≡ take k g ++ text_values (n * n - k) (drop at s)

pub none_read : (n : ℕ) (s : List ℕ) (g : List Float) → Left n s g 0 0
none_read n s g =
    let all : n * n ≡ n * n - 0 = omega arith in
    record { fault = ap (λ (m : ℕ). text_fault n m s) all; values = ap (λ (m : ℕ). text_values m s) all }

-- ---- the next field, which ends at `end` and is read as r
pub record Turn (n : ℕ) (s : List ℕ) (g : List Float) (k at end : ℕ) (r : Answer Float) : Type 0 where
  pub left : Left n s g k at
  pub within : k < n * n
  pub stops : end ≡ at + field_length (drop at s)
  pub reads : r ≡ field_of (take (end - at) (drop at s))

module _ {n : ℕ} {s : List ℕ} {g : List Float} {k at end : ℕ} {r : Answer Float} (t : Turn n s g k at end r) where
  -- how many follow it
  abbrev m : ℕ
  m = n * n - 1 - k

  and_one : n * n - k ≡ suc m
  and_one = omega (arith, t.within)

  own : field_of (field (drop at s)) ≡ r
  own =
      let e : field_length (drop at s) ≡ end - at = omega (arith, t.stops) in
      ap (λ (j : ℕ). field_of (take j (drop at s))) e ∙ sym t.reads

  ending-is : ending (drop at s) ≡ get_or s end 0
  ending-is = get_or-drop at s (field_length (drop at s)) 0 ∙ ap (λ (j : ℕ). get_or s j 0) (sym t.stops)

  rest-is : rest (drop at s) ≡ drop (end + 1) s
  rest-is =
      let e : at + (field_length (drop at s) + 1) ≡ end + 1 = omega (arith, t.stops) in
      drop-drop (field_length (drop at s) + 1) at s ∙ ap (λ (j : ℕ). drop j s) e

  -- by what the field is read as, what ends it and what follows that
  abbrev by_parts : Answer Float → ℕ → List ℕ → ℕ
  by_parts x b l = first (field_number x) (cond (eqb b (separator n m)) (text_fault n m l) 12)

  fault-is : text_fault n (n * n) s ≡ by_parts r (get_or s end 0) (drop (end + 1) s)
  fault-is =
      t.left.fault
      ∙ ap (λ (j : ℕ). text_fault n j (drop at s)) and_one
      ∙ fault_of_next n m (drop at s)
      ∙ ap (λ (x : Answer Float). by_parts x (ending (drop at s)) (rest (drop at s))) own
      ∙ ap (λ (b : ℕ). by_parts r b (rest (drop at s))) ending-is
      ∙ ap (λ (l : List ℕ). by_parts r (get_or s end 0) l) rest-is

  pub turn_refuses : {f : ℕ} → r ≡ Refused f → (f ≡ text_fault n (n * n) s) × (f ≡ 0 → ⊥)
  unfolding field_number
  turn_refuses {f} e =
      let some : f ≡ 0 → ⊥ = λ h. refused-some _ (own ∙ e ∙ ap Refused h) in
      (sym (fault-is ∙ rw (e, ne_eqb f 0 some)), some)

  module _ {v : Float} (e : r ≡ Value v) where
    fault-after : text_fault n (n * n) s
        ≡ cond (eqb (get_or s end 0) (separator n m)) (text_fault n m (drop (end + 1) s)) 12
    unfolding field_number
    fault-after = fault-is ∙ rw e

    pub turn-other : (get_or s end 0 ≡ separator n m → ⊥) → ◌≡◌ {A = ℕ} 12 (text_fault n (n * n) s)
    turn-other h = sym (fault-after ∙ rw (ne_eqb (get_or s end 0) (separator n m) h))

    pub turn_cut : length s ≤ end → ◌≡◌ {A = ℕ} 12 (text_fault n (n * n) s)
    turn_cut h = turn-other (λ q. separator-some n m (sym q ∙ past_end s end h))

    values-after : k < length g → text_values (n * n) s ≡ take (k + 1) (set g k v) ++ text_values m (drop (end + 1) s)
    unfolding field_value
    values-after l =
        t.left.values
        ∙ ap (λ (j : ℕ). take k g ++ text_values j (drop at s)) and_one
        ∙ ap (λ (x : List Float). take k g ++ x) (values_of_next m (drop at s))
        ∙ rw (own, e, rest-is, add-one k, take-suc-set g k v l)
        (sym (append_snoc (take k g) v (text_values m (drop (end + 1) s))))

    pub turn_on : get_or s end 0 ≡ separator n m → k < length g → Left n s (set g k v) (k + 1) (end + 1)
    turn_on h l =
        let less : m ≡ n * n - (k + 1) = omega arith in
        let same : text_fault n m (drop (end + 1) s) ≡ text_fault n (n * n - (k + 1)) (drop (end + 1) s) = rw less in
        record {
          fault = fault-after ∙ rw (eq-eqb (get_or s end 0) (separator n m) h) same;
          values = values-after l ∙ ap (λ (j : ℕ). take (k + 1) (set g k v) ++ text_values j (drop (end + 1) s)) less;
        }

-- ---- after the last field
module _ {n : ℕ} {s : List ℕ} {g : List Float} {k at : ℕ} (left : Left n s g k at) (all : k ≡ n * n) where
  none_left : n * n - k ≡ 0
  none_left = omega arith

  fault_of_rest : text_fault n (n * n) s ≡ cond (eqb (length (drop at s)) 0) 0 12
  fault_of_rest = left.fault ∙ ap (λ (m : ℕ). text_fault n m (drop at s)) none_left ∙ fault_of_none n (drop at s)

  pub surplus : at < length s → ◌≡◌ {A = ℕ} 12 (text_fault n (n * n) s)
  surplus h =
      let some : length (drop at s) ≡ 0 → ⊥ = λ z. omega (arith, length-drop at s) in
      sym (fault_of_rest ∙ rw (ne_eqb (length (drop at s)) 0 some))

  pub all_read : length s ≤ at → ◌≡◌ {A = ℕ} 0 (text_fault n (n * n) s)
  all_read h =
      let none : length (drop at s) ≡ 0 = omega (arith, length-drop at s) in
      sym (fault_of_rest ∙ rw (eq-eqb (length (drop at s)) 0 none))

  pub all-values : take (n * n) g ≡ text_values (n * n) s
  all-values =
      sym
      (left.values
      ∙ ap (λ (m : ℕ). take k g ++ text_values m (drop at s)) none_left
      ∙ ap (λ (l : List Float). take k g ++ l) (values_of_none (drop at s))
      ∙ append-nil (take k g)
      ∙ ap (λ (j : ℕ). take j g) all)
