-- The exported calls, over plain variables: fractions in bytes, a model by its number, values in bytes, and more values than any model has.
use mathlib.Core.Path.{◌≡◌, refl, sym, ap, ◌∙◌}
use mathlib.Core.Bool.{Bool, true, false, ◌&&◌, cond, and-eq-true_iff}
use mathlib.Core.List.{List}
use Prim.Native.Nat.{ℕ, zero, suc, ◌*◌, ◌/◌, ◌%◌, ◌<◌, ◌≤◌}
use native.Mathlib.Nat.{zero-add, mul-le-mul}
use native.Mathlib.Omega.{arith}
use lib.Dec.{eqb, leb}
use lib.ListN.{length, get_or}
use lib.Ieee.{Float}
use borrow.Author.Tests.{eq-eqb, ne_eqb, leb-true}
use Rattle.arithmetic.specs.Bytes.{float_at, floats_at, floats}
use Rattle.arithmetic.specs.Sums.{sum, total}
use Rattle.arithmetic.specs.Tables.{at}
use Rattle.arithmetic.proofs.ByteLaws.{length-floats, floats_at_lem}
use Rattle.arithmetic.proofs.SumLaws.{sum_same}
use Rattle.models.specs.declared.answers.Quantity.{Quantity}
use Rattle.arithmetic.specs.Refusals.{Answer, Value, Refused}
use Rattle.models.specs.declared.model.Model.{Model}
use Rattle.models.specs.declared.model.Model.TheVariants.{Wilson, Uniquac, Nrtl, Unifac}
use Rattle.models.specs.Answers.{number_of, answer, first}
use Rattle.models.specs.Faults.{tolerance_fault, sum_fault, composition_fault, mix_fault, index_fault, fractions_fault}
use Rattle.models.specs.Faults.{between, shape_fault, all_to, lists_fault, unifac_fault, data_fault}
use Rattle.models.specs.Model.{model_of, is_model, ModelData, model_data}
use Rattle.models.specs.Plain.{value_at, plain_call}
use Rattle.models.specs.Values.{wilson_size, uniquac_size, nrtl_size, counts_at, start, unifac_size}
use Rattle.std.specs.Prelude.{Result, Ok, Err}
use Rattle.std.specs.Result.{IsErrAnd}
use Rattle.std.proofs.lemmas.Result.{err_from_is_err_and}
use Rattle.arithmetic.specs.declared.refusal.Refusal.{Refusal}
use Rattle.arithmetic.specs.Refusals.{number_of as refused_number, answer_of}
use Rattle.arithmetic.proofs.RefusalLaws.{number-positive, passed-number}
use Rattle.models.proofs.AnswerLaws.{first-left, first-right, answer-refused, answer-value}
use Rattle.kiltgrit.specs.Exports.{with_rest, plain_rest, exported, left}

pub length_eights : (s : List ℕ) → length (floats s) ≡ length s / 8
unfolding floats
length_eights s = length-floats s 0 (length s / 8)

eights_at : (s : List ℕ) (k : ℕ) → k < length s / 8 → at (floats s) k ≡ float_at s (8 * k)
unfolding floats
eights_at s k h = floats_at_lem s 0 (length s / 8) k h ∙ rw (zero-add (8 * k))

pub total_eights : (s : List ℕ) → sum (length s / 8) (λ k. float_at s (8 * k)) ≡ total (floats s)
unfolding total
total_eights s = rw (length_eights s) (sum_same (length s / 8) _ _ (λ k h. sym (eights_at s k h)))

module _ (ε : Float) (n : ℕ) (x : List ℕ) (q : Quantity) (R : ℕ) {t : ℕ} (F : t ≡ tolerance_fault ε) where
  pub eights_wide : (t ≡ 0 → ⊥) → t ≡ first (fractions_fault ε n (floats x) q) R
  unfolding fractions_fault
  eights_wide ne = first-left R (first-left _ F ne) ne

  module _ (w : t ≡ 0) where
    within : {k : ℕ} → k ≡ first (mix_fault ε n (floats x)) (index_fault n q) → k ≡ fractions_fault ε n (floats x) q
    unfolding fractions_fault
    within p = first-right F w p

    pub eights_empty : length x < 8 → 5 ≡ first (fractions_fault ε n (floats x) q) R
    unfolding mix_fault composition_fault
    eights_empty h =
        let e : length (floats x) ≡ 0 = omega (arith, length_eights x) in
        first-left R (within (rw (eq-eqb _ 0 e))) (λ e. omega arith)

    module _ {s : Float} {k : ℕ} (some : 8 ≤ length x) (S : s ≡ total (floats x)) (K : k ≡ sum_fault ε s) where
      composition : k ≡ composition_fault ε (floats x)
      unfolding composition_fault
      composition =
          let ne : length (floats x) ≡ 0 → ⊥ = λ e. omega (arith, length_eights x, e) in
          rw (ne_eqb _ 0 ne) (K ∙ ap (sum_fault ε) S)

      pub eights_off : (k ≡ 0 → ⊥) → k ≡ first (fractions_fault ε n (floats x) q) R
      unfolding mix_fault
      eights_off ne = first-left R (within (first-left _ (first-left _ composition ne) ne)) ne

      pub eights_length : k ≡ 0 → (length x / 8 ≡ n → ⊥) → 7 ≡ first (fractions_fault ε n (floats x) q) R
      unfolding mix_fault
      eights_length z ne =
          let other : length (floats x) ≡ n → ⊥ = λ e. ne (sym (length_eights x) ∙ e) in
          first-left R (within (first-left _ (first-right composition z (rw (ne_eqb _ n other))) (λ e. omega arith))) (λ e. omega arith)

      module _ {i : ℕ} (z : k ≡ 0) (many : length x / 8 ≡ n) (I : i ≡ index_fault n q) where
        passed : i ≡ fractions_fault ε n (floats x) q
        unfolding mix_fault
        passed = within (first-right (first-right composition z (rw (eq-eqb _ n (length_eights x ∙ many)))) refl I)

        pub eights_index : (i ≡ 0 → ⊥) → i ≡ first (fractions_fault ε n (floats x) q) R
        eights_index ne = first-left R passed ne

        pub eights_rest : i ≡ 0 → {r : ℕ} → r ≡ R → r ≡ first (fractions_fault ε n (floats x) q) R
        eights_rest y e = first-right passed y e

-- ---- the plain call, from the fault of its data, that of its fractions, and its value

rest-is : (l f r : ℕ) (v : Float) → answer (first l (first f (cond (eqb r 0) 0 7))) v ≡ with_rest r (answer (first l f) v)
unfolding answer with_rest
rest-is (suc l) f r v = simp (ne_eqb (suc l) 0 (λ e. omega arith))
rest-is zero (suc f) r v = simp (ne_eqb (suc f) 0 (λ e. omega arith))
rest-is zero zero r v = by_test (eqb r 0)
  where
    by_test : (t : Bool) → answer (cond t 0 7) v ≡ cond t (Value v) (Refused 7)
    by_test true = refl
    by_test false = refl

pub by_parts : (d : ModelData) (T ε : Float) (x : List ℕ) (q : Quantity)
    → answer (first (data_fault d) (first (fractions_fault ε d.n (floats x) q) (cond (eqb (length x % 8) 0) 0 7))) (value_at d T (at (floats x)) q)
    ≡ plain_rest d T ε x q
unfolding plain_rest plain_call
by_parts d T ε x q = rest-is (data_fault d) (fractions_fault ε d.n (floats x) q) (length x % 8) (value_at d T (at (floats x)) q)

-- a call r that has the faults of data and fractions: its refusal, and the value where it has none
module _ (d : ModelData) (T ε : Float) (x : List ℕ) (q : Quantity) {A : Type 0} {r : Result A Refusal}
    (f : refused_number r ≡ first (data_fault d) (first (fractions_fault ε d.n (floats x) q) (cond (eqb (length x % 8) 0) 0 7))) where
  pub rest-refused : {e : Refusal} (s : Result Float Refusal) → r ≡ Err e → IsErrAnd s (λ y. y ≡ e) → answer_of s ≡ plain_rest d T ε x q
  unfolding answer_of refused_number
  rest-refused {e} s p h =
      let on = err_from_is_err_and s h in
      let g = rw p at f in rw (on.1, on.2) (answer-refused _ g (λ z. number-positive e z)) ∙ by_parts d T ε x q

  pub rest-value : {a : A} {v : Float} → r ≡ Ok a → v ≡ value_at d T (at (floats x)) q → answer_of (Ok v) ≡ plain_rest d T ε x q
  unfolding answer_of
  rest-value p e = answer-value f (passed-number p) e ∙ by_parts d T ε x q

-- ---- bytes that are whole eights

pub whole_eights : (s : List ℕ) (n : ℕ) → length s ≡ 8 * n → floats_at s 0 n ≡ floats s
unfolding floats
whole_eights s n h = let e : length s / 8 ≡ n = omega arith in rw e

-- no model has more than 5,328 values
and-off : (b c : Bool) → (b ≡ true → c ≡ false) → b && c ≡ false
and-off true c h = h refl
and-off false c h = refl

both : (a b : Bool) → a && b ≡ true → (a ≡ true) × (b ≡ true)
both a b = (and-eq-true_iff a b).0

below : (a b k : ℕ) → between a b k ≡ true → k ≤ b
below a b k h = leb-true k b (both (leb a k) (leb k b) h).1

shape-long : (n size : ℕ) (values : List Float) → 5328 < length values → (n ≤ 12 → size ≤ 5328) → 2 ≡ shape_fault n size values
unfolding shape_fault
shape-long n size values h s = rw (and-off (between 1 12 n) (eqb (length values) size) (λ b. ne_eqb _ size (λ e. omega (arith, s (below 1 12 n b), e))))

-- lists of up to 12 each
start_small : (lens : List ℕ) (n : ℕ) → all_to n (λ i. leb (get_or lens i 0) 12) ≡ true → start lens n ≤ n * 12
unfolding start all_to
start_small lens zero h = omega arith
start_small lens (suc n) h =
    let p = both (all_to n (λ i. leb (get_or lens i 0) 12)) (leb (get_or lens n 0) 12) h in
    let a = start_small lens n p.0 in
    let b = leb-true (get_or lens n 0) 12 p.1 in
    omega arith

lists-long : (n ng : ℕ) (lens groups : List ℕ) (values : List Float) → 5328 < length values → 2 ≡ lists_fault n ng lens groups values
unfolding lists_fault unifac_size counts_at
lists-long n ng lens groups values h =
    rw (and-off (between 1 12 n && between 1 32 ng && eqb (length lens) n && all_to n (λ i. leb (get_or lens i 0) 12) && eqb (length groups) (start lens n))
    (eqb (length values) (unifac_size ng (start lens n))) (λ b. ne_eqb (length values) (unifac_size ng (start lens n)) (far b)))
  where
    far : between 1 12 n && between 1 32 ng && eqb (length lens) n && all_to n (λ i. leb (get_or lens i 0) 12) && eqb (length groups) (start lens n) ≡ true → length values ≡ unifac_size ng (start lens n) → ⊥
    far b e =
        let N = between 1 12 n in
        let G = between 1 32 ng in
        let L = eqb (length lens) n in
        let A = all_to n (λ i. leb (get_or lens i 0) 12) in
        let most = both (N && G && L) A (both (N && G && L && A) (eqb (length groups) (start lens n)) b).0 in
        let counts = both N G (both (N && G) L most.0).0 in
        let few = below 1 12 n counts.0 in
        let some = below 1 32 ng counts.1 in
        let lists = start_small lens n most.1 in
        let square = mul-le-mul some some in
        omega arith

unifac-long : (n ng : ℕ) (lens groups : List ℕ) (values : List Float) → 5328 < length values → 2 ≡ unifac_fault n ng lens groups values
unfolding unifac_fault
unifac-long n ng lens groups values h = first-left _ (lists-long n ng lens groups values h) (λ e. omega arith)

-- ---- a model by its number, and values in bytes

long_by : (k : Model) (d : ModelData) → d.model ≡ k → 5328 < length d.values → 2 ≡ data_fault d
unfolding data_fault wilson_size uniquac_size nrtl_size
long_by Wilson d e h = rw e (shape-long d.n _ d.values h (λ b. omega (arith, mul-le-mul b b)))
long_by Uniquac d e h = rw e (shape-long d.n _ d.values h (λ b. omega (arith, mul-le-mul b b)))
long_by Nrtl d e h = rw e (shape-long d.n _ d.values h (λ b. omega (arith, mul-le-mul b b)))
long_by Unifac d e h = rw e (unifac-long d.n d.ng d.lens d.groups d.values h)

rest-long : (d : ModelData) (T ε : Float) (x : List ℕ) (q : Quantity) → 5328 < length d.values → Refused 2 ≡ plain_rest d T ε x q
rest-long d T ε x q h =
    answer-refused _ (first-left _ (long_by d.model d refl h) (λ e. omega arith)) (λ e. omega arith) ∙ by_parts d T ε x q

module _ (m n ng : ℕ) (lens groups values : List ℕ) (T ε : Float) (x : List ℕ) (q : Quantity) where
  abbrev named : ModelData
  named = model_data (model_of m) n ng lens groups (floats values)

  pub exported-rest : (length values % 8 ≡ 0 → ⊥) → Refused 2 ≡ exported m n ng lens groups values T ε x q
  unfolding exported
  exported-rest h = rw (ne_eqb _ 0 h)

  module _ (whole : length values % 8 ≡ 0) where
    pub exported-none : is_model m ≡ false → Refused 2 ≡ exported m n ng lens groups values T ε x q
    unfolding exported
    exported-none h = rw (eq-eqb _ 0 whole, h)

    module _ (some : is_model m ≡ true) where
      pub exported-whole : {a : Answer Float} → a ≡ plain_rest named T ε x q → a ≡ exported m n ng lens groups values T ε x q
      unfolding exported
      exported-whole p = rw (eq-eqb _ 0 whole, some) p

      pub exported-long : 5328 < length values / 8 → Refused 2 ≡ exported m n ng lens groups values T ε x q
      exported-long h = exported-whole (rest-long named T ε x q (rw (length_eights values) h))

-- the number and the value of an equal answer
pub given_as : {a b : Answer Float} {r : ℕ} (old : Float) {new : Float} → a ≡ b → (r ≡ number_of a) × (new ≡ left a old) → (r ≡ number_of b) × (new ≡ left b old)
given_as old e p = (p.0 ∙ ap number_of e, p.1 ∙ ap (λ (a : Answer Float). left a old) e)
