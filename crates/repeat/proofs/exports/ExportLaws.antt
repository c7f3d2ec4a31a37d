-- The steps of the exported call, over plain variables: a call after another, one more turn, all turns.
use mathlib.Core.Path.{◌≡◌, refl, ap, ◌∙◌}
use mathlib.Core.List.{List}
use Prim.Native.Nat.{ℕ, suc, ◌+◌, ◌-◌, ◌*◌, ◌/◌, ◌≤◌}
use native.Mathlib.Nat.{le_antisymm, sub_self}
use native.Mathlib.Omega.{arith}
use native.Mathlib.Numerals.{add-one}
use lib.ListN.{length, replicate}
use lib.Ieee.{Float, binary64, of_bits}
use borrow.Author.Tests.{eq-eqb, ne_eqb, le-ltb}
use Rattle.std.specs.Prelude.{Result, Ok, Err}
use Rattle.std.specs.Result.{result_unwrap_or}
use Rattle.arithmetic.specs.declared.refusal.Refusal.{Refusal}
use Rattle.arithmetic.specs.Refusals.{answer_of}
use Rattle.arithmetic.specs.Bytes.{floats, floats_at, float_at}
use Rattle.arithmetic.specs.Floats.{+0}
use Rattle.models.specs.declared.answers.Quantity.{Quantity}
use Rattle.mixture.specs.declared.head.Head.{Head}
use Rattle.models.specs.declared.model.Model.{Model}
use Rattle.mixture.specs.declared.setting.Setting.{Setting}
use Rattle.mixture.specs.declared.setting.Setting.TheVariants.{Temperature}
use Rattle.arithmetic.specs.Refusals as Plain
use Rattle.models.specs.Answers.{quantity_of}
use Rattle.models.specs.Faults.{usual_tolerance}
use Rattle.models.specs.Model.{ModelData, model_data, model_of}
use Rattle.mixture.specs.Answers.{Answer, value_of}
use Rattle.mixture.specs.Memory.{Memory, memory, After, after}
use Rattle.mixture.specs.Calls.{no_head, after_open, after_load, after_setting, after_fractions, after_query}
use Rattle.models.specs.Plain.{plain_call}
use Rattle.repeat.specs.Exports.{plain_value, setting_of, asked, set_and_asked, asked_times, set_times, turns, begun, zeros, plain_turns, repeated, repeated_bytes}

pub begun-is : (m : Memory) (h : Head) (d : ModelData) (x : List Float) {m₁ m₂ : Memory} {h₁ h₂ : Head} {a₁ a₂ : Answer} {r : After} →
    after m₁ h₁ a₁ ≡ after_open m h → after m₂ h₂ a₂ ≡ after_load m₁ h₁ d → r ≡ after_fractions m₂ h₂ x → r ≡ begun m h d x
unfolding begun
begun-is m h d x e f p = p ∙ ap (λ (b : After). after_fractions b.memory b.head x) (f ∙ ap (λ (b : After). after_load b.memory b.head d) e)

-- queries
module _ (q : Quantity) (a : After) where
  pub asked-none : a ≡ asked_times 0 q a
  unfolding asked_times
  asked-none = refl

  pub asked-more : (n : ℕ) {m : Memory} {h : Head} {p : Answer} {r : After} → after m h p ≡ asked_times n q a → r ≡ after_query m h q → r ≡ asked_times (n + 1) q a
  unfolding asked_times asked
  asked-more n e p = rw (add-one n) (p ∙ ap (asked q) e)

  pub asked-done : (j n : ℕ) {b : After} → b ≡ asked_times j q a → j ≤ n → n ≤ j → value_of b.answer ≡ value_of (asked_times n q a).answer
  asked-done j n e p s = ap (λ (b : After). value_of b.answer) e ∙ ap (λ (i : ℕ). value_of (asked_times i q a).answer) (le_antisymm p s)

module _ (change : ℕ) (k : Model) (v : Float) (q : Quantity) (T : ℕ → Float) (a : After) where
  -- settings with a query each, from T i on
  module _ (i : ℕ) where
    pub set-none : a ≡ set_times (i - i) change k v q (λ j. T (i + j)) a
    unfolding set_times
    set-none = rw (sub_self i) refl

    pub set_more : (j : ℕ) {m m₁ : Memory} {h h₁ : Head} {p p₁ : Answer} {t : Float} {s : Setting} {r : After} →
        i ≤ j → after m h p ≡ set_times (j - i) change k v q (λ l. T (i + l)) a →
        t ≡ T j → s ≡ setting_of change k v t → after m₁ h₁ p₁ ≡ after_setting m h s → r ≡ after_query m₁ h₁ q →
        r ≡ set_times (j + 1 - i) change k v q (λ l. T (i + l)) a
    unfolding set_times set_and_asked asked
    set_more j {m = m} {h = h} le e et es f p =
        let one_more : j + 1 - i ≡ suc (j - i) = omega arith in
        let here : j ≡ i + (j - i) = omega arith in
        rw one_more
        (p ∙ ap (asked q) (f ∙ ap (after_setting m h) (es ∙ ap (setting_of change k v) (et ∙ ap T here)))
        ∙ ap (set_and_asked (setting_of change k v (T (i + (j - i)))) q) e)

    pub set-done : (j n : ℕ) {b : After} → b ≡ set_times (j - i) change k v q (λ l. T (i + l)) a → j ≤ n → n ≤ j → b ≡ set_times (n - i) change k v q (λ l. T (i + l)) a
    set-done j n e p s = e ∙ ap (λ (l : ℕ). set_times (l - i) change k v q (λ h. T (i + h)) a) (le_antisymm p s)

  -- the turns after the first
  module _ (n : ℕ) {b : After} (e : b ≡ set_times (1 - 0) 2 k v q (λ j. T (0 + j)) a) where
    first-is : b ≡ set_and_asked (Temperature (T 0)) q a
    unfolding set_times setting_of
    first-is = e

    pub turns-asked : {r : Float} → change ≡ 0 → r ≡ value_of (asked_times (n - 1) q b).answer → r ≡ value_of (turns n change k v q T a).answer
    unfolding turns
    turns-asked ze p = rw (eq-eqb change 0 ze, ← first-is) p

    pub turns-set : {c : After} → (change ≡ 0 → ⊥) → c ≡ set_times (n - 1) change k v q (λ j. T (1 + j)) b → value_of c.answer ≡ value_of (turns n change k v q T a).answer
    unfolding turns
    turns-set ne p = rw (ne_eqb change 0 ne, ← first-is) (ap (λ (c : After). value_of c.answer) p)

pub plain_usual : (d : ModelData) (T : Float) (x : List Float) (q : Quantity) {a : Plain.Answer Float} {ε r : Float} →
    ε ≡ usual_tolerance → a ≡ plain_call d T ε x q → r ≡ plain_value a → r ≡ plain_value (plain_call d T usual_tolerance x q)
plain_usual d T x q e p s = s ∙ ap plain_value (p ∙ ap (λ (ε : Float). plain_call d T ε x q) e)

module _ (d : ModelData) (x : List Float) (q : Quantity) (T : ℕ → Float) where
  pub plain-none : of_bits binary64 0 ≡ plain_turns 0 d x q T
  unfolding plain_turns of_bits
  plain-none = refl

  pub plain_more : (n : ℕ) {r : Float} → r ≡ plain_value (plain_call d (T n) usual_tolerance x q) → r ≡ plain_turns (n + 1) d x q T
  unfolding plain_turns
  plain_more n p = rw (add-one n) p

  pub plain_done : (j n : ℕ) {r : Float} → r ≡ plain_turns j d x q T → j ≤ n → n ≤ j → r ≡ plain_turns n d x q T
  plain_done j n e p s = e ∙ ap (λ (i : ℕ). plain_turns i d x q T) (le_antisymm p s)

  module _ (n change : ℕ) (v : Float) where
    pub repeated-plain : {r : Float} → change ≡ 3 → r ≡ plain_turns n d x q T → r ≡ repeated n d x q change v T
    unfolding repeated
    repeated-plain e p = rw (eq-eqb change 3 e) p

    pub repeated-kept : {r : Float} → (change ≡ 3 → ⊥) → r ≡ value_of (turns n change d.model v q T (begun zeros no_head d x)).answer → r ≡ repeated n d x q change v T
    unfolding repeated
    repeated-kept ne p = rw (ne_eqb change 3 ne) p

-- the code's 0.0
zero_is : of_bits binary64 0 ≡ +0
unfolding of_bits
zero_is = refl

code_zeros : memory (replicate 5328 (of_bits binary64 0)) (replicate 1024 (of_bits binary64 0)) (replicate 1024 0) ≡ zeros
unfolding zeros
code_zeros = ap (λ (z : Float). memory (replicate 5328 z) (replicate 1024 z) (replicate 1024 0)) zero_is

-- the mixture on zeros, from its opening to its last turn
pub kept-is : (n change : ℕ) (k : Model) (v : Float) (q : Quantity) (T : ℕ → Float) (d : ModelData) (x : List Float) {h : Head} {b : After} {r : Float} →
    h ≡ no_head → b ≡ begun (memory (replicate 5328 (of_bits binary64 0)) (replicate 1024 (of_bits binary64 0)) (replicate 1024 0)) h d x →
    r ≡ value_of (turns n change k v q T b).answer →
    r ≡ value_of (turns n change k v q T (begun zeros no_head d x)).answer
kept-is n change k v q T d x {h = h} hh p e =
    e
    ∙ ap (λ (b : After). value_of (turns n change k v q T b).answer)
    (p ∙ ap (λ (m : Memory). begun m h d x) code_zeros ∙ ap (λ (h : Head). begun zeros h d x) hh)

-- values and fractions decoded
pub bytes-are : (model n ng : ℕ) (lens groups values x : List ℕ) (asked i change : ℕ) (v : Float) (temperatures : List ℕ) {k : Model} {l y : List Float} {q : Quantity} {r : Float} →
    length values / 8 ≤ 5328 → length x / 8 ≤ 12 → 8 ≤ length temperatures →
    k ≡ model_of model → l ≡ floats_at values 0 (length values / 8) → y ≡ floats_at x 0 (length x / 8) → q ≡ quantity_of asked i →
    r ≡ repeated (length temperatures / 8) (model_data k n ng lens groups l) y q change v (λ j. float_at temperatures (8 * j)) →
    r ≡ repeated_bytes model n ng lens groups values x asked i change v temperatures
unfolding repeated_bytes floats
bytes-are model n ng lens groups values x asked i change v temperatures a b c km el ey eq p =
    rw (le-ltb 5328 (length values / 8) a, le-ltb 12 (length x / 8) b, le-ltb (length temperatures) 8 c, ← km, ← el, ← ey, ← eq) p

-- a plain call's value, or the code's 0.0
pub value-or : (r : Result Float Refusal) → result_unwrap_or r (of_bits binary64 0) ≡ plain_value (answer_of r)
unfolding plain_value answer_of of_bits
value-or (Ok v) = refl
value-or (Err e) = refl
