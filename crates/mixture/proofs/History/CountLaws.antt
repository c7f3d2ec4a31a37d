-- How many cells a model has, and how many of them a setting makes stale: all, a row's n - 1, its own, or none.
use mathlib.Core.Path.{◌≡◌, refl, sym, ◌∙◌}
use mathlib.Core.Bool.{Bool, true, false, not, ◌&&◌, ◌||◌, cond, and-true, and-false, and_comm, and_assoc, or-true, or-false}
use mathlib.Core.Logic.{inl, inr}
use Prim.Native.Nat.{ℕ, zero, suc, ◌*◌, ◌-◌, ◌<◌, ◌≤◌}
use native.Mathlib.Nat.{zero-mul, suc-mul, eq-or-lt_of_le}
use native.Mathlib.Omega.{arith}
use lib.Dec.{ltb, eqb}
use lib.Ieee.{Float}
use borrow.Author.Tests.{lt-ltb, le-ltb, eq-eqb, ne_eqb, eqb-true, eqb-false}
use Rattle.arithmetic.specs.declared.parameters.TdParam.{TdParam}
use Rattle.arithmetic.proofs.Tests.{either, le-or}
use Rattle.models.specs.declared.model.Model.{Model}
use Rattle.models.specs.declared.model.Model.TheVariants.{Wilson, Uniquac, Nrtl, Unifac}
use Rattle.mixture.specs.declared.setting.Setting.TheVariants.{Temperature, Entry, TdEntry, Size, Count, Tolerance}
use Rattle.mixture.specs.Lists.{how_many, how_many_pairs}
use Rattle.mixture.specs.Holdings.{Held}
use Rattle.mixture.specs.Cells.{width, is_cell}
use Rattle.mixture.specs.Faults.{has_entry, has_td_entry, case_fault}
use Rattle.mixture.specs.Calls.{stales}
use Rattle.mixture.specs.Pins.{cells_number, CellsNumber, stales_number, StalesNumber}
use Rattle.mixture.proofs.ListLaws.{never, how_many-none, how_many-same, how_many_pairs-same}
use Rattle.mixture.proofs.PlaceLaws.{below-is, had}

-- ---- numbers below n

how_many-all : (n : ℕ) → how_many n (λ j. true) ≡ n
unfolding how_many
how_many-all zero = refl
how_many-all (suc n) = rw (how_many-all n) (omega arith)

-- all but i
how_many_but : (n i : ℕ) → i < n → how_many n (λ j. not (eqb i j)) ≡ n - 1
unfolding how_many
how_many_but zero i h = absurd (omega arith)
how_many_but (suc n) i h =
    elim (le-or n i) [
      | inl g ↦
          let e : i ≡ n = omega arith in
          rw (eq-eqb i n e, how_many-same n (λ j. not (eqb i j)) (λ j. true) (λ j b. rw (ne_eqb i j (λ q. omega arith))), how_many-all n) (omega arith)
      | inr g ↦ rw (how_many_but n i g, ne_eqb i n (λ q. omega arith)) (omega arith)
    ]

-- of those that are j, j itself where it passes
how_many-own : (n j : ℕ) (p : ℕ → Bool) → j < n → how_many n (λ l. eqb l j && p l) ≡ cond (p j) 1 0
unfolding how_many
how_many-own zero j p h = absurd (omega arith)
how_many-own (suc n) j p h =
    elim (either (eqb n j)) [
      | inl e ↦
          let q : n ≡ j = eqb-true n j e in
          rw (e, how_many-none n (λ l. eqb l j && p l) (λ l b. rw (ne_eqb l j (λ r. omega arith))), ← q) (omega arith)
      | inr e ↦ let q = eqb-false n j e in rw (e, how_many-own n j p (lt_of h q)) (omega arith)
    ]
  where
    lt_of : j < suc n → (n ≡ j → ⊥) → j < n
    lt_of h q = elim (le-or n j) [ inl g ↦ absurd (q (omega arith)) | inr g ↦ g ]

-- row i alone
pairs-row : (m n i : ℕ) (p : ℕ → ℕ → Bool) → how_many_pairs m n (λ k l. eqb k i && p k l) ≡ cond (ltb i m) (how_many n (p i)) 0
unfolding how_many_pairs
pairs-row zero n i p = rw (le-ltb i 0 (omega arith))
pairs-row (suc m) n i p =
    rw (pairs-row m n i p)
    (elim (either (eqb m i)) [
      | inl e ↦ let q : m ≡ i = eqb-true m i e in rw (e, q, le-ltb i i (omega arith), lt-ltb i (suc i) (omega arith)) (omega arith)
      | inr e ↦
          rw (e, how_many-none n (λ l. false) (λ l b. refl))
          (elim (le-or m i) [
            | inl g ↦ let l : suc m ≤ i = lt_of m i g (eqb-false m i e) in rw (le-ltb i m g, le-ltb i (suc m) l)
            | inr g ↦ rw (lt-ltb i m g, lt-ltb i (suc m) (omega arith)) (omega arith)
          ])
    ])
  where
    lt_of : (a b : ℕ) → a ≤ b → (a ≡ b → ⊥) → suc a ≤ b
    lt_of a b h n = elim (eq-or-lt_of_le h) [ inl q ↦ absurd (n q) | inr l ↦ l ]

-- n rows without their diagonal, or whole
pairs-off : (m n : ℕ) → m ≤ n → how_many_pairs m n (λ i j. not (eqb i j)) ≡ m * (n - 1)
unfolding how_many_pairs
pairs-off zero n h = rw (zero-mul (n - 1))
pairs-off (suc m) n h = rw (pairs-off m n (omega arith), how_many_but n m h, suc-mul m (n - 1))

pairs-all : (m n : ℕ) → how_many_pairs m n (λ i j. true) ≡ m * n
unfolding how_many_pairs
pairs-all zero n = rw (zero-mul n)
pairs-all (suc m) n = rw (pairs-all m n, how_many-all n, suc-mul m n)

-- ---- cells

pub cells-number : CellsNumber
unfolding width is_cell
cells-number d = go d.model refl
  where
    go : (k : Model) → d.model ≡ k → how_many_pairs (width d) (width d) (is_cell d) ≡ cells_number d
    go Wilson e = rw e (pairs-off d.n d.n (omega arith))
    go Uniquac e = rw e (pairs-off d.n d.n (omega arith))
    go Nrtl e = rw e (pairs-off d.n d.n (omega arith))
    go Unifac e = rw e (pairs-all d.ng d.ng)

-- ---- cells that a setting makes stale

-- the cell i, j alone, where it is one
own_stale : (w i j : ℕ) (p : ℕ → ℕ → Bool) → i < w → j < w → how_many_pairs w w (λ k l. p k l && (eqb k i && eqb l j)) ≡ cond (p i j) 1 0
own_stale w i j p h g =
    rw (
      how_many_pairs-same w w (λ k l. p k l && (eqb k i && eqb l j)) (λ k l. eqb k i && (eqb l j && p k l)) (λ k l a b. and_comm (p k l) (eqb k i && eqb l j) ∙ and_assoc (eqb k i) (eqb l j) (p k l)),
      pairs-row w w i (λ k l. eqb l j && p k l),
      lt-ltb i w h,
    )
    (how_many-own w j (p i) g)

off-own : (n i j : ℕ) → i < n → j < n → how_many_pairs n n (λ k l. not (eqb k l) && (eqb k i && eqb l j)) ≡ cond (eqb i j) 0 1
off-own n i j h g = own_stale n i j (λ k l. not (eqb k l)) h g ∙ elim (either (eqb i j)) [ inl e ↦ rw e | inr e ↦ rw e ]

-- an energy: its own cell, or its row's where it is on the diagonal
energy_stale : (n i j : ℕ) → i < n → j < n → how_many_pairs n n (λ k l. not (eqb k l) && (eqb k i && (eqb l j || eqb i j))) ≡ cond (eqb i j) (n - 1) 1
energy_stale n i j h g =
    elim (either (eqb i j)) [
      | inl e ↦
          rw e
          (how_many_pairs-same n n _ (λ k l. eqb k i && not (eqb k l)) (λ k l a b. rw (or-true (eqb l j), and-true (eqb k i)) (and_comm (not (eqb k l)) (eqb k i)))
          ∙ (pairs-row n n i (λ k l. not (eqb k l)) ∙ rw (lt-ltb i n h) (how_many_but n i h)))
      | inr e ↦
          rw e
          (how_many_pairs-same n n _ (λ k l. not (eqb k l) && (eqb k i && eqb l j)) (λ k l a b. rw (or-false (eqb l j))) ∙ (off-own n i j h g ∙ rw e))
    ]

none_stale : (d : Held) → how_many_pairs (width d) (width d) (λ i j. is_cell d i j && false) ≡ 0
unfolding how_many_pairs
none_stale d = how_many_pairs-same (width d) (width d) _ (λ i j. false) (λ i j a b. and-false (is_cell d i j)) ∙ none (width d) (width d)
  where
    none : (m n : ℕ) → how_many_pairs m n (λ i j. false) ≡ 0
    none zero n = refl
    none (suc m) n = rw (none m n, how_many-none n (λ j. false) (λ j b. refl))

entry-stales : (d : Held) (i j : ℕ) (v : Float) → has_entry d i j ≡ true
    → how_many_pairs (width d) (width d) (λ k l. is_cell d k l && stales d (Entry i j v) k l) ≡ stales_number d (Entry i j v)
unfolding stales width is_cell has_entry stales_number
entry-stales d i j v h = go d.model refl
  where
    go : (k : Model) → d.model ≡ k → how_many_pairs (width d) (width d) (λ k l. is_cell d k l && stales d (Entry i j v) k l) ≡ stales_number d (Entry i j v)
    go Wilson e = let b = below-is i d.n j d.n (rw e at h) in rw e (energy_stale d.n i j b.0 b.1)
    go Uniquac e = let b = below-is i d.n j d.n (rw e at h) in rw e (energy_stale d.n i j b.0 b.1)
    go Nrtl e = let b = below-is i d.n j d.n (rw e at h) in rw e (off-own d.n i j b.0 b.1)
    go Unifac e = never (sym (rw e at h))

td_stales : (d : Held) (i j : ℕ) (p : TdParam) → has_td_entry d i j ≡ true
    → how_many_pairs (width d) (width d) (λ k l. is_cell d k l && stales d (TdEntry i j p) k l) ≡ stales_number d (TdEntry i j p)
unfolding stales width is_cell has_td_entry stales_number
td_stales d i j p h = go d.model refl
  where
    go : (k : Model) → d.model ≡ k → how_many_pairs (width d) (width d) (λ k l. is_cell d k l && stales d (TdEntry i j p) k l) ≡ stales_number d (TdEntry i j p)
    go Wilson e = never (sym (rw e at h))
    go Uniquac e = never (sym (rw e at h))
    go Nrtl e = let b = below-is i d.n j d.n (rw e at h) in rw e (off-own d.n i j b.0 b.1)
    go Unifac e =
        let b = below-is i d.ng j d.ng (rw e at h) in
        rw e (own_stale d.ng i j (λ k l. true) b.0 b.1 ∙ elim (either (eqb i j)) [ inl t ↦ rw t | inr t ↦ rw t ])

pub stales-number : StalesNumber
unfolding stales case_fault stales_number
stales-number d (Temperature T) f = how_many_pairs-same (width d) (width d) _ _ (λ i j a b. and-true (is_cell d i j)) ∙ cells-number d
stales-number d (Entry i j v) f = entry-stales d i j v (had (has_entry d i j) 0 f)
stales-number d (TdEntry i j p) f = td_stales d i j p (had (has_td_entry d i j) 0 f)
stales-number d (Size i which v) f = none_stale d
stales-number d (Count i j v) f = none_stale d
stales-number d (Tolerance ε) f = none_stale d
