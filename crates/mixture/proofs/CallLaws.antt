-- A call is refused with its number, or leaves what it leaves where that is 0; and what a head that passes has shown.
use mathlib.Core.Path.{◌≡◌, refl, sym, ◌∙◌}
use mathlib.Core.Bool.{Bool, true, false, ◌&&◌, cond}
use mathlib.Core.List.{List, ◌++◌}
use Prim.Native.Nat.{ℕ, ◌≤◌}
use native.Mathlib.Omega.{arith}
use lib.Dec.{leb, ltb, eqb}
use lib.ListN.{length, get_or, drop, replicate, length-replicate}
use lib.Ieee.{Float}
use borrow.Author.Tests.{le-leb, eqb-true, lt-ltb, eq-eqb, ne_eqb}
use Rattle.std.specs.Prelude.{Result, Ok, Err}
use Rattle.std.specs.Result.{IsErrAnd}
use Rattle.arithmetic.specs.Floats.{+0}
use Rattle.arithmetic.specs.declared.refusal.Refusal.{Refusal}
use Rattle.arithmetic.specs.Refusals.{number}
use Rattle.models.specs.Faults.{composition_fault, between, all_to, data_fault, mix_fault}
use Rattle.models.specs.Values.{start}
use Rattle.mixture.specs.declared.head.Head.{Head}
use Rattle.models.specs.declared.model.Model.{Model}
use Rattle.models.specs.declared.model.Model.TheVariants.{Wilson, Uniquac, Nrtl, Unifac}
use Rattle.mixture.specs.declared.answers.Outcome.{Outcome}
use Rattle.mixture.specs.Answers.{answer_of, Refused, Done}
use Rattle.mixture.specs.Lists.{written}
use Rattle.mixture.specs.Holdings.{held}
use Rattle.mixture.specs.Cells.{width}
use Rattle.models.specs.Model.{ModelData, by_model, table_width, is_model}
use Rattle.mixture.specs.Memory.{Memory, memory, least_values, least_marks, short, is_short, After, after}
use Rattle.mixture.specs.Layout.{data_in, cell_at}
use Rattle.mixture.specs.Calls.{outcome, loaded_head, loaded_memory, after_load}
use Rattle.mixture.specs.Faults.{memory_fault, in_range, head_fault, ready_fault, fractions_fault, load_fault}
use Rattle.mixture.proofs.ListLaws.{never}
use Rattle.mixture.proofs.PlaceLaws.{both, passed, spared, nought}
use Rattle.mixture.proofs.History.RangeLaws.{at_all, first-is, start-bound, Bounds, bounds, Long, long-is, Sound, sound}

module _ (m : Memory) (h : Head) where
  pub refused : (a : After) {f k : ℕ} → k ≡ f → (k ≡ 0 → ⊥) → after m h (Refused k) ≡ outcome f m h a
  refused a {f} {k} e n = rw (← e, ne_eqb k 0 n)

  pub done : {f : ℕ} {a b : After} → f ≡ 0 → b ≡ a → b ≡ outcome f m h a
  done {f} e s = rw (eq-eqb f 0 e) s

-- ---- refusals handed on

-- a call's answer too
pub answer-handed : (a : Result Outcome Refusal) (e : Refusal) → IsErrAnd a (λ x. x ≡ e) → answer_of a ≡ Refused (number e)
unfolding answer_of
answer-handed (Ok o) e h = absurd h
answer-handed (Err x) e h = rw h refl

-- ---- how a head is judged

-- the slices count by their lengths alone
pub short_by : (m : Memory) {lv lc lm : ℕ} → (length m.values ≡ lv) × (length m.cells ≡ lc) × (length m.marks ≡ lm) → cond (short lv lc lm) 1 0 ≡ memory_fault m
unfolding memory_fault
short_by m e = rw (← e.0, ← e.1, ← e.2)

module _ (d : ModelData) where
  pub range_not : between 1 12 d.n ≡ false → false ≡ in_range d
  unfolding in_range
  range_not h = go d.model refl
    where
      go : (k : Model) → d.model ≡ k → false ≡ in_range d
      go Wilson e = rw (e, h)
      go Uniquac e = rw (e, h)
      go Nrtl e = rw (e, h)
      go Unifac e = rw (e, h)

  pub range-plain : (k : Model) → d.model ≡ k → by_model k true true true false ≡ true → between 1 12 d.n ≡ true → true ≡ in_range d
  unfolding in_range
  range-plain Wilson e u h = rw (e, h)
  range-plain Uniquac e u h = rw (e, h)
  range-plain Nrtl e u h = rw (e, h)
  range-plain Unifac e u h = never (sym u)

  pub range-lists : {b : Bool} → d.model ≡ Unifac → between 1 12 d.n ≡ true
      → b ≡ (between 1 32 d.ng && all_to d.n (λ i. leb (get_or d.lens i 0) 12) && all_to (start d.lens d.n) (λ p. ltb (get_or d.groups p 0) d.ng))
      → b ≡ in_range d
  unfolding in_range
  range-lists e h s = s ∙ rw (e, h)

module _ (m : Memory) (h : Head) where
  module _ (long : memory_fault m ≡ 0) where
    pub judged_none : h.model ≡ 0 → 8 ≡ head_fault m h
    unfolding head_fault
    judged_none e = rw (eq-eqb _ _ long, eq-eqb _ _ e)

    pub judged_many : (h.model ≡ 0 → ⊥) → is_model h.model ≡ false → 1 ≡ head_fault m h
    unfolding head_fault
    judged_many n l = rw (eq-eqb _ _ long, ne_eqb _ _ n, l)

    pub judged_by : {b : Bool} → (h.model ≡ 0 → ⊥) → is_model h.model ≡ true → b ≡ in_range (data_in m h) → cond b 0 1 ≡ head_fault m h
    unfolding head_fault
    judged_by n l e = rw (eq-eqb _ _ long, ne_eqb _ _ n, l, e)

  module _ {k : ℕ} (e : k ≡ head_fault m h) (z : k ≡ 0) where
    pub ready_no_t : h.has_t ≡ false → 9 ≡ ready_fault m h
    unfolding ready_fault
    ready_no_t t = rw (← e, z, t)

    pub ready_no_x : h.has_t ≡ true → h.has_x ≡ false → 9 ≡ ready_fault m h
    unfolding ready_fault
    ready_no_x t x = rw (← e, z, t, x)

    pub ready_none : h.has_t ≡ true → h.has_x ≡ true → 0 ≡ ready_fault m h
    unfolding ready_fault
    ready_none t x = rw (← e, z, t, x)

-- ---- slices and a head that pass

memory-long : (m : Memory) → memory_fault m ≡ 0 → Long m
unfolding memory_fault
memory-long m e = long-is m (spared (is_short m) 0 1 (nought 0) e).0

pub record Passed (m : Memory) (h : Head) : Type 0 where
  pub long : Long m
  pub range : Bounds (data_in m h)

module _ (m : Memory) (h : Head) (e : head_fault m h ≡ 0) where
  pub in_range_lem : in_range (data_in m h) ≡ true
  unfolding head_fault
  in_range_lem =
      let f = first-is (memory_fault m) _ e in
      let g = spared (eqb h.model 0) _ 8 (nought 7) f.1 in
      (both (is_model h.model) (in_range (data_in m h)) (passed (is_model h.model && in_range (data_in m h)) 0 1 (nought 0) g.1).0).1

  pub head_passed : Passed m h
  unfolding head_fault
  head_passed = record { long = memory-long m (first-is (memory_fault m) _ e).0; range = bounds (data_in m h) in_range_lem }

pub ready_passed : (m : Memory) (h : Head) → ready_fault m h ≡ 0 → Passed m h
unfolding ready_fault
ready_passed m h e = head_passed m h (first-is (head_fault m h) _ e).0

-- n is in range where the head passes with some memory of these lengths
pub few_by : (h : Head) (lv lc lm : ℕ) {r : ℕ}
    → ((m : Memory) → (length m.values ≡ lv) × (length m.cells ≡ lc) × (length m.marks ≡ lm) → r ≡ head_fault m h) → r ≡ 0 → h.n ≤ 12
few_by h lv lc lm e z =
    (head_passed some h (sym (e some (length-replicate lv +0, length-replicate lc +0, length-replicate lm 0)) ∙ z)).range.few
  where
    some : Memory
    some = memory (replicate lv +0) (replicate lc +0) (replicate lm 0)

-- ---- fractions that pass

pub mix-length : (ε : Float) (n : ℕ) (x : List Float) → mix_fault ε n x ≡ 0 → length x ≡ n
unfolding mix_fault
mix-length ε n x z = eqb-true (length x) n (passed (eqb (length x) n) 0 7 (nought 6) (first-is (composition_fault ε x) _ z).1).0

pub fractions-fit : (m : Memory) (h : Head) (x : List Float) → fractions_fault m h x ≡ 0 → length x ≤ 12
unfolding fractions_fault
fractions-fit m h x e =
    let f = first-is (head_fault m h) _ e in
    omega (arith, mix-length h.tolerance h.n x f.1, (head_passed m h f.0).range.few)

-- ---- a load that passes

sound-range : (d : ModelData) → Sound d → in_range d ≡ true
unfolding in_range
sound-range d s = go d.model refl
  where
    go : (k : Model) → d.model ≡ k → in_range d ≡ true
    go Wilson e = rw (e, le-leb 1 d.n s.some, le-leb d.n 12 s.few)
    go Uniquac e = rw (e, le-leb 1 d.n s.some, le-leb d.n 12 s.few)
    go Nrtl e = rw (e, le-leb 1 d.n s.some, le-leb d.n 12 s.few)
    go Unifac e =
        let l = s.lists e in
        rw (
          e,
          le-leb 1 d.n s.some,
          le-leb d.n 12 s.few,
          le-leb 1 d.ng l.some,
          le-leb d.ng 32 l.few,
          at_all d.n (λ i. leb (get_or d.lens i 0) 12) (λ i b. le-leb _ _ (l.short i b)),
          at_all (start d.lens d.n) (λ p. ltb (get_or d.groups p 0) d.ng) (λ p b. lt-ltb _ _ (l.group p b)),
        )

pub record Fits (m : Memory) (d : ModelData) : Type 0 where
  pub values : length d.values ≤ length m.values
  pub marks : 1024 ≤ length m.marks
  pub width : (1 ≤ table_width d.model d.n d.ng) × (table_width d.model d.n d.ng ≤ 32)
  pub lists : d.model ≡ Unifac → (length d.lens ≤ 12) × (length d.groups ≤ 144)

pub load_fits : (m : Memory) (d : ModelData) → memory_fault m ≡ 0 → data_fault d ≡ 0 → Fits m d
unfolding least_values least_marks width
load_fits m d e f =
    let long = memory-long m e in
    let s = sound d f in
    let range = bounds d (sound-range d s) in
    record {
      values = omega (arith, s.size, range.values, long.values);
      marks = long.marks;
      width = range.wide;
      lists = λ u. let l = s.lists u in (omega (arith, l.lens, s.few), omega (arith, l.places, start-bound d.lens d.n l.short, s.few));
    }

pub load_passed : (m : Memory) (d : ModelData) → load_fault m d ≡ 0 → Fits m d
unfolding load_fault
load_passed m d e = let f = first-is (memory_fault m) _ e in load_fits m d f.0 f.1

module _ (m : Memory) (h : Head) (d : ModelData) where
  pub load_done : {v : List Float} {k : List ℕ} {g : Head} → load_fault m d ≡ 0
      → v ≡ d.values ++ drop (length d.values) m.values → k ≡ written (cell_at (held d)) (λ c. 0) m.marks → g ≡ loaded_head d
      → after (memory v m.cells k) g Done ≡ after_load m h d
  unfolding after_load loaded_memory
  load_done e v k g = rw (eq-eqb (load_fault m d) 0 e, v, k, g)
