-- What range checks show: an accepted load is in range, and a head in range has its values and cells within the least
-- lengths of the slices.
use mathlib.Core.Path.{◌≡◌, refl, sym, ◌∙◌}
use mathlib.Core.Bool.{Bool, true, false, ◌&&◌, ◌||◌}
use mathlib.Core.List.{List}
use mathlib.Core.Logic.{inl, inr}
use Prim.Native.Nat.{ℕ, zero, suc, ◌*◌, ◌<◌, ◌≤◌}
use native.Mathlib.Nat.{mul-le-mul, mul-suc}
use native.Mathlib.Omega.{arith}
use lib.Dec.{leb, ltb, eqb}
use lib.ListN.{length, get_or}
use lib.Ieee.{Float, lt}
use borrow.Author.Tests.{leb-true, ltb-true, ltb-false, le-ltb, eqb-true, eq-eqb}
use Rattle.arithmetic.specs.Floats.{+0}
use Rattle.arithmetic.specs.Tables.{at, from}
use Rattle.arithmetic.proofs.Tests.{either, le-or}
use Rattle.models.specs.Answers.{first, first_to}
use Rattle.models.specs.Faults.{between, all_to, shape_fault, lists_fault, place_fault, groups_fault, unifac_fault, data_fault}
use Rattle.models.specs.Values.{wilson_size, uniquac_size, nrtl_size, counts_at, start, unifac_size}
use Rattle.models.specs.declared.model.Model.{Model}
use Rattle.models.specs.declared.model.Model.TheVariants.{Wilson, Uniquac, Nrtl, Unifac}
use Rattle.mixture.specs.Holdings.{held}
use Rattle.mixture.specs.Cells.{width}
use Rattle.models.specs.Model.{ModelData, size_of}
use Rattle.mixture.specs.Memory.{Memory, least_values, least_cells, least_marks, short, is_short}
use Rattle.mixture.specs.Faults.{memory_fault, in_range}
use Rattle.mixture.proofs.ListLaws.{never, or-none}
use Rattle.mixture.proofs.PlaceLaws.{both, passed, spared, nought}

-- ---- tests

between_is : (a b k : ℕ) → between a b k ≡ true → (a ≤ k) × (k ≤ b)
between_is a b k h = let f = both (leb a k) (leb k b) h in (leb-true a k f.0, leb-true k b f.1)

pub all-at : (n : ℕ) (p : ℕ → Bool) → all_to n p ≡ true → (i : ℕ) → i < n → p i ≡ true
unfolding all_to
all-at zero p h i b = absurd (omega arith)
all-at (suc n) p h i b =
    let f = both (all_to n p) (p n) h in
    elim (le-or n i) [
      | inl g ↦ let e : i ≡ n = omega arith in rw e f.1
      | inr g ↦ all-at n p f.0 i g
    ]

pub at_all : (n : ℕ) (p : ℕ → Bool) → ((i : ℕ) → i < n → p i ≡ true) → all_to n p ≡ true
unfolding all_to
at_all zero p h = refl
at_all (suc n) p h = rw (at_all n p (λ i b. h i (omega arith)), h n (omega arith))

pub first-is : (k m : ℕ) → first k m ≡ 0 → (k ≡ 0) × (m ≡ 0)
first-is k m h =
    elim (either (eqb k 0)) [
      | inl e ↦ (eqb-true k 0 e, rw e at h)
      | inr e ↦ let z : k ≡ 0 = rw e at h in (z, never (sym (eq-eqb k 0 z) ∙ e))
    ]

first_to-is : (n : ℕ) (f : ℕ → ℕ) → first_to n f ≡ 0 → (i : ℕ) → i < n → f i ≡ 0
unfolding first_to
first_to-is zero f h i b = absurd (omega arith)
first_to-is (suc n) f h i b =
    let g = first-is (first_to n f) (f n) h in
    elim (le-or n i) [
      | inl c ↦ let e : i ≡ n = omega arith in rw e g.1
      | inr c ↦ first_to-is n f g.0 i c
    ]

pub first_to-none : (n : ℕ) (f : ℕ → ℕ) → ((i : ℕ) → i < n → f i ≡ 0) → first_to n f ≡ 0
unfolding first_to
first_to-none zero f h = refl
first_to-none (suc n) f h = rw (first_to-none n f (λ i b. h i (omega arith)), h n (omega arith))

-- ---- a load's data that pass

-- UNIFAC's lists
pub record Listed (d : ModelData) : Type 0 where
  pub some : 1 ≤ d.ng
  pub few : d.ng ≤ 32
  pub lens : length d.lens ≡ d.n
  pub short : (i : ℕ) → i < d.n → get_or d.lens i 0 ≤ 12
  pub places : length d.groups ≡ start d.lens d.n
  pub group : (p : ℕ) → p < start d.lens d.n → get_or d.groups p 0 < d.ng
  pub count : (p : ℕ) → p < start d.lens d.n → lt (at (from (counts_at d.ng) d.values) p) +0 ≡ false

pub record Sound (d : ModelData) : Type 0 where
  pub some : 1 ≤ d.n
  pub few : d.n ≤ 12
  pub size : length d.values ≡ size_of d
  pub lists : d.model ≡ Unifac → Listed d

shape-sound : (n size : ℕ) (v : List Float) → shape_fault n size v ≡ 0 → (1 ≤ n) × (n ≤ 12) × (length v ≡ size)
unfolding shape_fault
shape-sound n size v h =
    let f = both (between 1 12 n) (eqb (length v) size) (passed (between 1 12 n && eqb (length v) size) 0 2 (nought 1) h).0 in
    let b = between_is 1 12 n f.0 in
    (b.0, b.1, eqb-true (length v) size f.1)

unifac-sound : (d : ModelData) → unifac_fault d.n d.ng d.lens d.groups d.values ≡ 0
    → (1 ≤ d.n) × (d.n ≤ 12) × (length d.values ≡ unifac_size d.ng (start d.lens d.n)) × Listed d
unfolding unifac_fault lists_fault groups_fault place_fault
unifac-sound d h =
    let f = first-is _ _ h in
    let t = (passed _ 0 2 (nought 1) f.0).0 in
    let sizes = both _ _ t in
    let groups = both _ _ sizes.0 in
    let short = both _ _ groups.0 in
    let lens = both _ _ short.0 in
    let ns = both (between 1 12 d.n) (between 1 32 d.ng) lens.0 in
    let n = between_is 1 12 d.n ns.0 in
    let ng = between_is 1 32 d.ng ns.1 in
    let places : length d.groups ≡ start d.lens d.n = eqb-true _ _ groups.1 in (
      n.0,
      n.1,
      eqb-true _ _ sizes.1,
      record {
        some = ng.0;
        few = ng.1;
        lens = eqb-true _ _ lens.1;
        short = λ i b. leb-true (get_or d.lens i 0) 12 (all-at d.n (λ i. leb (get_or d.lens i 0) 12) short.1 i b);
        places = places;
        group = λ p b. ltb-true _ _ (passed (ltb (get_or d.groups p 0) d.ng) _ 3 (nought 2) (first_to-is (length d.groups) _ f.1 p (rw places b))).0;
        count = λ p b.
            (spared (lt (at (from (counts_at d.ng) d.values) p) +0) 0 4 (nought 3)
            (passed (ltb (get_or d.groups p 0) d.ng) _ 3 (nought 2) (first_to-is (length d.groups) _ f.1 p (rw places b))).1).0;
      },
    )

pub sound : (d : ModelData) → data_fault d ≡ 0 → Sound d
unfolding data_fault
sound d h = go d.model refl
  where
    lists : d.model ≡ Unifac → Listed d
    lists e = (unifac-sound d (rw e at h)).3

    go : (k : Model) → d.model ≡ k → Sound d
    go Wilson e = let f = shape-sound d.n _ d.values (rw e at h) in record { some = f.0; few = f.1; size = rw e f.2; lists = lists }
    go Uniquac e = let f = shape-sound d.n _ d.values (rw e at h) in record { some = f.0; few = f.1; size = rw e f.2; lists = lists }
    go Nrtl e = let f = shape-sound d.n _ d.values (rw e at h) in record { some = f.0; few = f.1; size = rw e f.2; lists = lists }
    go Unifac e = let f = unifac-sound d (rw e at h) in record { some = f.0; few = f.1; size = rw e f.2; lists = lists }

-- ---- a head in range

pub start-bound : (lens : List ℕ) (n : ℕ) → ((i : ℕ) → i < n → get_or lens i 0 ≤ 12) → start lens n ≤ 12 * n
unfolding start
start-bound lens zero h = omega arith
start-bound lens (suc n) h = rw (mul-suc 12 n) (omega (arith, start-bound lens n (λ i b. h i (omega arith)), h n (omega arith)))

-- UNIFAC's ng and lists
pub record Lists (d : ModelData) : Type 0 where
  pub some : 1 ≤ d.ng
  pub few : d.ng ≤ 32
  pub short : (i : ℕ) → i < d.n → get_or d.lens i 0 ≤ 12
  pub places : start d.lens d.n ≤ 144
  pub below : (p : ℕ) → p < start d.lens d.n → get_or d.groups p 0 < d.ng

pub record Bounds (d : ModelData) : Type 0 where
  pub some : 1 ≤ d.n
  pub few : d.n ≤ 12
  pub wide : (1 ≤ width (held d)) × (width (held d) ≤ 32)
  pub values : size_of d ≤ 5328
  pub lists : d.model ≡ Unifac → Lists d

lists_in : (d : ModelData) → in_range d ≡ true → d.model ≡ Unifac → (1 ≤ d.n) × (d.n ≤ 12) × Lists d
unfolding in_range
lists_in d h e =
    let known = both _ _ (rw e at h) in
    let lens = both (between 1 12 d.n && between 1 32 d.ng) (all_to d.n (λ i. leb (get_or d.lens i 0) 12)) known.0 in
    let ns = both (between 1 12 d.n) (between 1 32 d.ng) lens.0 in
    let n = between_is 1 12 d.n ns.0 in
    let ng = between_is 1 32 d.ng ns.1 in
    let short : (i : ℕ) → i < d.n → get_or d.lens i 0 ≤ 12 = λ i b. leb-true _ _ (all-at d.n (λ i. leb (get_or d.lens i 0) 12) lens.1 i b) in (
      n.0,
      n.1,
      record {
        some = ng.0;
        few = ng.1;
        short = short;
        places = omega (arith, start-bound d.lens d.n short);
        below = λ p b. ltb-true _ _ (all-at (start d.lens d.n) (λ p. ltb (get_or d.groups p 0) d.ng) known.1 p b);
      },
    )

pub bounds : (d : ModelData) → in_range d ≡ true → Bounds d
unfolding in_range width wilson_size uniquac_size nrtl_size unifac_size counts_at
bounds d h = go d.model refl
  where
    lists : d.model ≡ Unifac → Lists d
    lists e = (lists_in d h e).2

    square : d.n ≤ 12 → d.n * d.n ≤ 144
    square b = mul-le-mul b b

    go : (k : Model) → d.model ≡ k → Bounds d
    go Wilson e = let n = between_is 1 12 d.n (rw e at h) in record { some = n.0; few = n.1; wide = rw e (n.0, omega arith); values = rw e (omega (arith, square n.1)); lists = lists }
    go Uniquac e = let n = between_is 1 12 d.n (rw e at h) in record { some = n.0; few = n.1; wide = rw e (n.0, omega arith); values = rw e (omega (arith, square n.1)); lists = lists }
    go Nrtl e = let n = between_is 1 12 d.n (rw e at h) in record { some = n.0; few = n.1; wide = rw e (n.0, omega arith); values = rw e (omega (arith, square n.1)); lists = lists }
    go Unifac e =
        let n = lists_in d h e in
        let l = n.2 in
        let q : d.ng * d.ng ≤ 1024 = mul-le-mul l.few l.few in
        record { some = n.0; few = n.1; wide = rw e (l.some, l.few); values = rw e (omega (arith, l.places)); lists = lists }

-- ---- slices that aren't short

pub record Long (m : Memory) : Type 0 where
  pub values : least_values ≤ length m.values
  pub cells : least_cells ≤ length m.cells
  pub marks : least_marks ≤ length m.marks

pub short_no : (m : Memory) → Long m → memory_fault m ≡ 0
unfolding memory_fault short
short_no m l = rw (le-ltb _ _ l.values, le-ltb _ _ l.cells, le-ltb _ _ l.marks)

pub long-is : (m : Memory) → is_short m ≡ false → Long m
unfolding short
long-is m s =
    let a = or-none (ltb (length m.values) least_values || ltb (length m.cells) least_cells) (ltb (length m.marks) least_marks) s in
    let b = or-none (ltb (length m.values) least_values) (ltb (length m.cells) least_cells) a.0 in
    record { values = ltb-false _ _ b.0; cells = ltb-false _ _ b.1; marks = ltb-false _ _ a.1 }
