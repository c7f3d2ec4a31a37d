-- Answers and the first fault of several, over plain variables: a proof hands over what its callees ensure and what its tests found.
use mathlib.Core.Path.{◌≡◌, refl, sym, ap, ◌∙◌}
use mathlib.Core.Bool.{Bool, true, false, cond, and-false}
use mathlib.Core.Logic.{⊎_elim}
use mathlib.Core.List.{List, [], ◌∷◌}
use Prim.Native.Nat.{ℕ, zero, suc, ◌+◌, ◌<◌, ◌≤◌}
use native.Mathlib.Nat.{eq-or-lt_of_le, le_of_suc-le-suc}
use native.Mathlib.Numerals.{add-one}
use native.Mathlib.Omega.{arith}
use lib.Dec.{leb, ltb}
use lib.Ieee.{Float}
use borrow.Author.Tests.{eq-eqb, eqb-true, ne_eqb, ltb-true, leb-true}
use Rattle.std.specs.Prelude.{Result, Ok, Err}
use Rattle.std.specs.Result.{IsErrAnd}
use Rattle.std.proofs.lemmas.Result.{err_from_is_err_and}
use Rattle.arithmetic.specs.declared.refusal.Refusal.{Refusal}
use Rattle.arithmetic.specs.Exponential.{exp_of}
use Rattle.arithmetic.specs.Refusals.{Value, Refused, number_of as refused_number, answer_of}
use Rattle.arithmetic.proofs.RefusalLaws.{number-positive, refused-number, passed-number}
use Rattle.arithmetic.specs.Tables.{at}
use Rattle.models.specs.declared.answers.Quantity.{Quantity}
use Rattle.models.specs.declared.answers.Quantity.TheVariants.{LnGamma, Gamma, ExcessGibbs}
use Rattle.models.specs.Answers.{number_of, values_of, answer, first, first_to, quantity, reads}
use Rattle.models.specs.Faults.{index_fault, shape_fault, fractions_fault, data_fault}
use Rattle.models.specs.Model.{ModelData}
use Rattle.models.specs.Plain.{value_at, plain_call}

in_range_lem : (n i : ℕ) → ◌≡◌ {A = ℕ} (cond (ltb i n) 0 7) 0 → i < n
in_range_lem n i = by_test (ltb i n) refl
  where
    by_test : (t : Bool) → ltb i n ≡ t → ◌≡◌ {A = ℕ} (cond t 0 7) 0 → i < n
    by_test true e z = ltb-true i n e
    by_test false e z = absurd (omega arith)

-- ---- an answer

pub answer-refused : {f k : ℕ} (v : Float) → k ≡ f → (k ≡ 0 → ⊥) → Refused k ≡ answer f v
unfolding answer
answer-refused v p n = rw (← p, ne_eqb _ _ n)

pub answer-value : {f k : ℕ} {v w : Float} → k ≡ f → k ≡ 0 → w ≡ v → Value w ≡ answer f v
unfolding answer
answer-value p z q = rw (← p, z, q)

pub number-answer : (k : ℕ) (v : Float) → number_of (answer k v) ≡ k
unfolding number_of answer
number-answer zero v = refl
number-answer (suc k) v = rw (ne_eqb (suc k) 0 (λ e. omega arith))

pub values-value : (k : ℕ) (v : Float) → k ≡ 0 → values_of (answer k v) ≡ v ∷ []
unfolding values_of answer
values-value k v z = rw z

pub values-refused : (k : ℕ) (v : Float) → (k ≡ 0 → ⊥) → values_of (answer k v) ≡ []
unfolding values_of answer
values-refused k v n = rw (ne_eqb k 0 n)

-- ---- the first of two numbers that is not 0

pub first-left : {f k : ℕ} (g : ℕ) → k ≡ f → (k ≡ 0 → ⊥) → k ≡ first f g
first-left g p n = rw (← p, ne_eqb _ _ n)

pub first-right : {f g k m : ℕ} → k ≡ f → k ≡ 0 → m ≡ g → m ≡ first f g
first-right p z q = rw (← p, z, q)

-- ---- a `?` of a call that answers k: it hands on a refusal, and goes on where there is none

pub refused-on : {A B : Type 0} {r : Result A Refusal} {e : Refusal} {k : ℕ} (s : Result B Refusal) → r ≡ Err e → refused_number r ≡ k → IsErrAnd s (λ y. y ≡ e) → refused_number s ≡ k
unfolding refused_number
refused-on {r = r} s p q h = let on = err_from_is_err_and s h in rw (on.1, on.2) (rw p at q)

pub first-refused : {A B : Type 0} {r : Result A Refusal} {e : Refusal} {k : ℕ} (s : Result B Refusal) (m : ℕ) → r ≡ Err e → refused_number r ≡ k → IsErrAnd s (λ y. y ≡ e) → refused_number s ≡ first k m
first-refused s m p q h = first-left m (refused-on s p q h) (refused-number (err_from_is_err_and s h).1)

pub passed-zero : {A : Type 0} {r : Result A Refusal} {a : A} {k : ℕ} → r ≡ Ok a → refused_number r ≡ k → 0 ≡ k
passed-zero p q = sym (passed-number p) ∙ q

pub first-passed : {A B : Type 0} {r : Result A Refusal} {a : A} {k m : ℕ} (s : Result B Refusal) → r ≡ Ok a → refused_number r ≡ k → refused_number s ≡ m → refused_number s ≡ first k m
first-passed s p q t = first-right (passed-zero p q) refl t

-- ---- the first of f 0, .., f (n - 1) that is not 0

pub first-none : (f : ℕ → ℕ) → 0 ≡ first_to 0 f
unfolding first_to
first-none f = refl

pub first_more : (f : ℕ → ℕ) (p : ℕ) → 0 ≡ first_to p f → 0 ≡ f p → 0 ≡ first_to (p + 1) f
unfolding first_to
first_more f p z e = rw (add-one, ← z, ← e)

pub first_found : (f : ℕ → ℕ) (p n : ℕ) {k : ℕ} → p < n → 0 ≡ first_to p f → k ≡ f p → (k ≡ 0 → ⊥) → k ≡ first_to n f
unfolding first_to
first_found f p zero b z e ne = absurd (omega arith)
first_found f p (suc n) b z e ne =
    ⊎_elim (λ q. rw (← q, ← z, e)) (λ l. first-left (f n) (first_found f p n l z e ne) ne) (eq-or-lt_of_le (le_of_suc-le-suc b))

-- ---- a quantity

pub index_ln : {n i : ℕ} {q : Quantity} → q ≡ LnGamma i → index_fault n q ≡ 0 → i < n
unfolding index_fault
index_ln {n} {i} e z = in_range_lem n i (rw e at z)

pub index_gamma : {n i : ℕ} {q : Quantity} → q ≡ Gamma i → index_fault n q ≡ 0 → i < n
unfolding index_fault
index_gamma {n} {i} e z = in_range_lem n i (rw e at z)

pub quantity_ln : {i : ℕ} {q : Quantity} {v : Float} (f : ℕ → Float) (a : Float) → q ≡ LnGamma i → v ≡ f i → v ≡ quantity q f a
unfolding quantity
quantity_ln f a e p = rw (e, p)

pub quantity_gamma : {i : ℕ} {q : Quantity} {v w : Float} (f : ℕ → Float) (a : Float) → q ≡ Gamma i → w ≡ f i → v ≡ exp_of w → v ≡ quantity q f a
unfolding quantity
quantity_gamma f a e p r = rw (e, r, p)

pub quantity-excess : {q : Quantity} {v : Float} (f : ℕ → Float) (a : Float) → q ≡ ExcessGibbs → v ≡ a → v ≡ quantity q f a
unfolding quantity
quantity-excess f a e p = rw (e, p)

-- ln γ equal below n, and the excess energies equal: equal quantities
pub quantity-same : (n : ℕ) (q : Quantity) (f g : ℕ → Float) (a b : Float) → index_fault n q ≡ 0 → ((i : ℕ) → i < n → f i ≡ g i) → a ≡ b → quantity q f a ≡ quantity q g b
unfolding quantity
quantity-same n (LnGamma i) f g a b z p e = p i (index_ln refl z)
quantity-same n (Gamma i) f g a b z p e = ap exp_of (p i (index_gamma refl z))
quantity-same n ExcessGibbs f g a b z p e = e

-- ln γ and γ go by their component alone
pub reads_ln : {q : Quantity} {k i : ℕ} → q ≡ LnGamma k → reads q i ≡ true → k ≡ i
unfolding reads
reads_ln {k = k} {i} e r = eqb-true k i (rw e at r)

pub reads_gamma : {q : Quantity} {k i : ℕ} → q ≡ Gamma k → reads q i ≡ true → k ≡ i
unfolding reads
reads_gamma {k = k} {i} e r = eqb-true k i (rw e at r)

-- the same where ln γ are known to be equal for those components alone that the quantity goes by
pub quantity_read : (n : ℕ) (q : Quantity) (f g : ℕ → Float) (a b : Float) → index_fault n q ≡ 0 →
    ((i : ℕ) → i < n → reads q i ≡ true → f i ≡ g i) → (((i : ℕ) → i < n → f i ≡ g i) → a ≡ b) → quantity q f a ≡ quantity q g b
unfolding quantity reads
quantity_read n (LnGamma i) f g a b z p e = p i (index_ln refl z) (eq-eqb i i refl)
quantity_read n (Gamma i) f g a b z p e = ap exp_of (p i (index_gamma refl z) (eq-eqb i i refl))
quantity_read n ExcessGibbs f g a b z p e = e (λ i h. p i h refl)

-- ---- a model's size, which code works out for n within range alone

pub shape_size : (n s size : ℕ) (values : List Float) → (n ≤ 255 → s ≡ size) → shape_fault n s values ≡ shape_fault n size values
unfolding shape_fault
shape_size n s size values e = by_test (leb n 12) refl
  where
    by_test : (t : Bool) → leb n 12 ≡ t → shape_fault n s values ≡ shape_fault n size values
    by_test true p = rw (e (omega (arith, leb-true n 12 p)))
    by_test false p = rw (p, and-false (leb 1 n))

-- what a plain call answers, from its first fault
module _ (d : ModelData) (T ε : Float) (x : List Float) (q : Quantity) {k : ℕ} (f : k ≡ first (data_fault d) (fractions_fault ε d.n x q)) where
  pub plain-refused : (k ≡ 0 → ⊥) → Refused k ≡ plain_call d T ε x q
  unfolding plain_call
  plain-refused ne = answer-refused _ f ne

  pub plain_value_lem : {v : Float} → k ≡ 0 → v ≡ value_at d T (at x) q → Value v ≡ plain_call d T ε x q
  unfolding plain_call
  plain_value_lem z p = answer-value f z p

-- the same from a check r that refuses as it does
module _ (d : ModelData) (T ε : Float) (x : List Float) (q : Quantity) {A : Type 0} {r : Result A Refusal} (f : refused_number r ≡ first (data_fault d) (fractions_fault ε d.n x q)) where
  pub plain-refused-on : {e : Refusal} (s : Result Float Refusal) → r ≡ Err e → IsErrAnd s (λ y. y ≡ e) → answer_of s ≡ plain_call d T ε x q
  unfolding answer_of refused_number
  plain-refused-on {e} s p h =
      let on = err_from_is_err_and s h in
      let g = rw p at f in rw (on.1, on.2) (plain-refused d T ε x q g (number-positive e))

  pub plain-passed-on : {a : A} {v : Float} → r ≡ Ok a → v ≡ value_at d T (at x) q → answer_of (Ok v) ≡ plain_call d T ε x q
  unfolding answer_of
  plain-passed-on p e = plain_value_lem d T ε x q f (passed-number p) e
