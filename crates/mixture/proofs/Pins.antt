-- What pins the definitions that memory and book share: the one setting that names a place.
-- (How many cells there are and go stale: CountLaws.)
use mathlib.Core.Path.{◌≡◌, refl, sym, ◌∙◌}
use mathlib.Core.Bool.{true, ◌&&◌}
use mathlib.Core.List.{[]}
use mathlib.Core.Logic.{inl, inr}
use Prim.Native.Nat.{ℕ, ◌+◌, ◌*◌, ◌-◌, ◌/◌, ◌%◌, ◌<◌, ◌≤◌}
use native.Mathlib.Nat.{div-add-mod', mod-lt}
use native.Mathlib.Omega.{arith}
use lib.Dec.{eqb}
use lib.ListN.{get_or}
use lib.Ieee.{Float, nan, lt}
use borrow.Author.Tests.{lt-ltb, eq-eqb, eqb-true}
use Rattle.arithmetic.specs.Floats.{+0}
use Rattle.arithmetic.specs.declared.parameters.TdParam.{TdParam}
use Rattle.arithmetic.proofs.Tests.{either, le-or}
use Rattle.models.specs.Values.{five_at, wilson_size, uniquac_size, nrtl_size, counts_at, start, unifac_size, lists}
use Rattle.models.specs.declared.model.Model.{Model}
use Rattle.models.specs.declared.model.Model.TheVariants.{Wilson, Uniquac, Nrtl, Unifac}
use Rattle.mixture.specs.declared.setting.Setting.{Setting}
use Rattle.mixture.specs.declared.setting.Setting.TheVariants.{Temperature, Entry, TdEntry, Size, Count, Tolerance}
use Rattle.mixture.specs.Holdings.{held, name, named}
use Rattle.models.specs.Model.{ModelData, size_of}
use Rattle.mixture.specs.Faults.{below, has_entry, has_td_entry, has_size, has_count, case_fault}
use Rattle.mixture.specs.Layout.{place}
use Rattle.mixture.specs.Pins.{Over, ValuesNamed, Within}
use Rattle.mixture.proofs.PlaceLaws.{both, had, store_in, D, entry-places, size-places, count-places, td_places, td_entry_lem, entry-size, size_td, td_count, size-count, entry-count}
use Rattle.mixture.proofs.History.RangeLaws.{sound}
use Rattle.mixture.proofs.RowLaws.{before-table, before-lens, InRow, in_row_lem}

-- ---- one setting at most

module _ (d : ModelData) (p : ℕ) where
  -- two names of one case whose places are one
  one_name : (c i j k l a b : ℕ) → eqb a b ≡ (eqb i k && eqb j l) → a ≤ p → p < a + 1 → b ≤ p → p < b + 1 → name c i j ≡ name c k l
  one_name c i j k l a b e la ra lb rb =
      let t = both (eqb i k) (eqb j l) (sym e ∙ eq-eqb a b (omega arith)) in
      rw (eqb-true i k t.0, eqb-true j l t.1) refl

  td_name : (i j k l : ℕ) (P Q : TdParam) → Over d (TdEntry i j P) p → Over d (TdEntry k l Q) p → has_td_entry (held d) i j ≡ true → has_td_entry (held d) k l ≡ true → name 2 i j ≡ name 2 k l
  td_name i j k l P Q s t h g =
      elim (either (eqb i k && eqb j l)) [
        | inl e ↦ let b = both (eqb i k) (eqb j l) e in rw (eqb-true i k b.0, eqb-true j l b.1) refl
        | inr e ↦
            elim (td_places d d.model i j k l P Q h g e) [
              | inl y ↦ absurd (omega (arith, s.begins, t.begins, s.ends, t.ends))
              | inr y ↦ absurd (omega (arith, s.begins, t.begins, s.ends, t.ends))
            ]
      ]

  -- T and the tolerance have no number, so stand over nothing
  t-nowhere : {A : Type 0} (T : Float) → Over d (Temperature T) p → A
  unfolding place
  t-nowhere T s = absurd (omega (arith, s.ends))

  ε-nowhere : {A : Type 0} (ε : Float) → Over d (Tolerance ε) p → A
  unfolding place
  ε-nowhere ε s = absurd (omega (arith, s.ends))

  entry-had : (i j : ℕ) (a : Float) → Over d (Entry i j a) p → has_entry (held d) i j ≡ true
  unfolding case_fault
  entry-had i j a s = had (has_entry (held d) i j) 0 s.takes

  td_had : (i j : ℕ) (P : TdParam) → Over d (TdEntry i j P) p → has_td_entry (held d) i j ≡ true
  unfolding case_fault
  td_had i j P s = had (has_td_entry (held d) i j) 0 s.takes

  size-had : (i w : ℕ) (a : Float) → Over d (Size i w a) p → has_size (held d) i w ≡ true
  unfolding case_fault
  size-had i w a s = had (has_size (held d) i w) 0 s.takes

  count-had : (i j : ℕ) (a : Float) → Over d (Count i j a) p → has_count (held d) i j ≡ true
  unfolding case_fault
  count-had i j a s = had (has_count (held d) i j) _ s.takes

  -- two cases never stand over one place
  apart : {A : Type 0} (a m b k : ℕ) → a + m ≤ b → a ≤ p → p < a + m → b ≤ p → p < b + k → A
  apart a m b k h la ra lb rb = absurd (omega arith)

  td_or-entry : {A : Type 0} (i j k l : ℕ) (P : TdParam) (a : Float) → Over d (TdEntry i j P) p → Over d (Entry k l a) p → A
  td_or-entry i j k l P a o u = apart _ 5 _ 1 (td_entry_lem d d.model i j k l P a (td_had i j P o) (entry-had k l a u)) o.begins o.ends u.begins u.ends

  entry-or-size : {A : Type 0} (i j k w : ℕ) (a b : Float) → Over d (Entry i j a) p → Over d (Size k w b) p → A
  entry-or-size i j k w a b o u = apart _ 1 _ 1 (omega (arith, entry-size d d.model i j k w a b (entry-had i j a o) (size-had k w b u))) o.begins o.ends u.begins u.ends

  entry-or-count : {A : Type 0} (i j k l : ℕ) (a b : Float) → Over d (Entry i j a) p → Over d (Count k l b) p → A
  entry-or-count i j k l a b o u = entry-count d d.model i j k l (entry-had i j a o) (count-had k l b u)

  size-or_td : {A : Type 0} (i w k l : ℕ) (a : Float) (P : TdParam) → Over d (Size i w a) p → Over d (TdEntry k l P) p → A
  size-or_td i w k l a P o u = apart _ 1 _ 5 (omega (arith, size_td d d.model i w k l a P (size-had i w a o) (td_had k l P u))) o.begins o.ends u.begins u.ends

  td_or-count : {A : Type 0} (i j k l : ℕ) (P : TdParam) (a : Float) → Over d (TdEntry i j P) p → Over d (Count k l a) p → A
  td_or-count i j k l P a o u = apart _ 5 _ 1 (td_count d d.model i j k l P a (td_had i j P o) (count-had k l a u)) o.begins o.ends u.begins u.ends

  size-or-count : {A : Type 0} (i w k l : ℕ) (a b : Float) → Over d (Size i w a) p → Over d (Count k l b) p → A
  size-or-count i w k l a b o u = apart _ 1 _ 1 (omega (arith, size-count d d.model i w k l a b (size-had i w a o) (count-had k l b u))) o.begins o.ends u.begins u.ends

  once : (s t : Setting) → Over d s p → Over d t p → named s ≡ named t
  unfolding named
  once (Temperature T) t o u = t-nowhere T o
  once (Entry i j a) (Temperature T) o u = t-nowhere T u
  once (Entry i j a) (Entry k l b) o u = one_name 1 i j k l _ _ (entry-places d d.model i j k l a b (entry-had i j a o) (entry-had k l b u)) o.begins o.ends u.begins u.ends
  once (Entry i j a) (TdEntry k l P) o u = td_or-entry k l i j P a u o
  once (Entry i j a) (Size k w b) o u = entry-or-size i j k w a b o u
  once (Entry i j a) (Count k l b) o u = entry-or-count i j k l a b o u
  once (Entry i j a) (Tolerance ε) o u = ε-nowhere ε u
  once (TdEntry i j P) (Temperature T) o u = t-nowhere T u
  once (TdEntry i j P) (Entry k l b) o u = td_or-entry i j k l P b o u
  once (TdEntry i j P) (TdEntry k l Q) o u = td_name i j k l P Q o u (td_had i j P o) (td_had k l Q u)
  once (TdEntry i j P) (Size k w b) o u = size-or_td k w i j b P u o
  once (TdEntry i j P) (Count k l b) o u = td_or-count i j k l P b o u
  once (TdEntry i j P) (Tolerance ε) o u = ε-nowhere ε u
  once (Size i w a) (Temperature T) o u = t-nowhere T u
  once (Size i w a) (Entry k l b) o u = entry-or-size k l i w b a u o
  once (Size i w a) (TdEntry k l P) o u = size-or_td i w k l a P o u
  once (Size i w a) (Size k v b) o u = one_name 3 i w k v _ _ (size-places d d.model i w k v a b (size-had i w a o) (size-had k v b u)) o.begins o.ends u.begins u.ends
  once (Size i w a) (Count k l b) o u = size-or-count i w k l a b o u
  once (Size i w a) (Tolerance ε) o u = ε-nowhere ε u
  once (Count i j a) (Temperature T) o u = t-nowhere T u
  once (Count i j a) (Entry k l b) o u = entry-or-count k l i j b a u o
  once (Count i j a) (TdEntry k l P) o u = td_or-count k l i j P a u o
  once (Count i j a) (Size k w b) o u = size-or-count k w i j b a u o
  once (Count i j a) (Count k l b) o u = one_name 4 i j k l _ _ (count-places d d.model i j k l a b (count-had i j a o) (count-had k l b u)) o.begins o.ends u.begins u.ends
  once (Count i j a) (Tolerance ε) o u = ε-nowhere ε u
  once (Tolerance ε) t o u = ε-nowhere ε o

-- ---- one setting at least

-- a place of a table of m rows of n is one of them
in_table : (m n p : ℕ) → p < m * n → InRow (λ _. n) m p
in_table m n p h = in_row_lem (λ _. n) m p (rw (before-table n m) h)

in_place : (m n p : ℕ) (r : InRow (λ _. n) m p) → p ≡ r.i * n + r.j
in_place m n p r = r.place ∙ rw (before-table n r.i)

-- five numbers of each
five_of_lem : (p : ℕ) → (p / 5 * 5 ≤ p) × (p < p / 5 * 5 + 5)
five_of_lem p = let h : p % 5 < 5 = mod-lt p (omega arith) in (omega (arith, div-add-mod' p 5), omega (arith, div-add-mod' p 5))

pub record Covered (d : ModelData) (p : ℕ) : Type 0 where
  setting : Setting
  over : Over d setting p

module _ (d : ModelData) (p : ℕ) where
  at_entry : (i j : ℕ) → has_entry (held d) i j ≡ true → p ≡ place d (Entry i j +0) → Covered d p
  unfolding case_fault
  at_entry i j h e = record { setting = Entry i j +0; over = record { takes = rw h; begins = omega arith; ends = omega arith } }

  at_size : (i w : ℕ) → has_size (held d) i w ≡ true → p ≡ place d (Size i w +0) → Covered d p
  unfolding case_fault
  at_size i w h e = record { setting = Size i w +0; over = record { takes = rw h; begins = omega arith; ends = omega arith } }

  at_count : (i j : ℕ) → has_count (held d) i j ≡ true → p ≡ place d (Count i j nan) → Covered d p
  unfolding case_fault lt
  at_count i j h e = record { setting = Count i j nan; over = record { takes = rw h refl; begins = omega arith; ends = omega arith } }

  at_td : (i j : ℕ) → has_td_entry (held d) i j ≡ true → place d (TdEntry i j (five_at [] 0)) ≤ p → p < place d (TdEntry i j (five_at [] 0)) + 5 → Covered d p
  unfolding case_fault
  at_td i j h a b = record { setting = TdEntry i j (five_at [] 0); over = record { takes = rw h; begins = a; ends = b } }

below_both : (i m j k : ℕ) → i < m → j < k → below i m j k ≡ true
below_both i m j k h g = rw (lt-ltb i m h, lt-ltb j k g)

module _ (d : ModelData) (p : ℕ) where
  abbrev n : ℕ
  n = d.n

  abbrev ng : ℕ
  ng = d.ng

  wilson-covered : p < n * n + n → Covered (D d Wilson) p
  unfolding has_entry has_size place
  wilson-covered h =
      elim (le-or (n * n) p) [
        | inl g ↦ at_size (D d Wilson) p (p - n * n) 0 (below_both (p - n * n) n 0 1 (omega arith) (omega arith)) (omega arith)
        | inr g ↦ let r = in_table n n p g in at_entry (D d Wilson) p r.i r.j (below_both r.i n r.j n r.row r.column) (in_place n n p r)
      ]

  uniquac-covered : p < n * n + n + n → Covered (D d Uniquac) p
  unfolding has_entry has_size place
  uniquac-covered h =
      elim (le-or (n * n) p) [
        | inl g ↦
            let r = in_table 2 n (p - n * n) (omega arith) in
            at_size (D d Uniquac) p r.j r.i (below_both r.j n r.i 2 r.column r.row) (omega (arith, in_place 2 n (p - n * n) r))
        | inr g ↦ let r = in_table n n p g in at_entry (D d Uniquac) p r.i r.j (below_both r.i n r.j n r.row r.column) (in_place n n p r)
      ]

  nrtl-covered : p < n * n * 5 + n * n → Covered (D d Nrtl) p
  unfolding has_entry has_td_entry place
  nrtl-covered h =
      elim (le-or (n * n * 5) p) [
        | inl g ↦
            let r = in_table n n (p - n * n * 5) (omega arith) in
            at_entry (D d Nrtl) p r.i r.j (below_both r.i n r.j n r.row r.column) (omega (arith, in_place n n (p - n * n * 5) r))
        | inr g ↦
            let f = five_of_lem p in
            let r = in_table n n (p / 5) (omega arith) in
            let q = in_place n n (p / 5) r in
            at_td (D d Nrtl) p r.i r.j (below_both r.i n r.j n r.row r.column) (omega arith) (omega arith)
      ]

  -- UNIFAC: sizes, td entries, counts
  sizes-covered : p < ng + ng → Covered (D d Unifac) p
  unfolding has_size place
  sizes-covered h =
      let r = in_table 2 ng p (omega arith) in
      at_size (D d Unifac) p r.j r.i (below_both r.j ng r.i 2 r.column r.row) (in_place 2 ng p r)

  tds-covered : ng + ng ≤ p → p < ng + ng + ng * ng * 5 → Covered (D d Unifac) p
  unfolding has_td_entry place
  tds-covered h g =
      let f = five_of_lem (p - (ng + ng)) in
      let r = in_table ng ng ((p - (ng + ng)) / 5) (omega arith) in
      let q = in_place ng ng ((p - (ng + ng)) / 5) r in
      at_td (D d Unifac) p r.i r.j (below_both r.i ng r.j ng r.row r.column) (omega arith) (omega arith)

  counts-covered : counts_at ng ≤ p → p < counts_at ng + start d.lens n → Covered (D d Unifac) p
  unfolding has_count place lists
  counts-covered h g =
      let r = in_row_lem (λ i. get_or d.lens i 0) n (p - counts_at ng) (rw (before-lens d.lens n) (omega arith)) in
      at_count (D d Unifac) p r.i r.j (below_both r.i n r.j (get_or d.lens r.i 0) r.row r.column)
      (omega (arith, r.place, before-lens d.lens r.i))

  covered : (k : Model) → p < size_of (D d k) → Covered (D d k) p
  unfolding wilson_size uniquac_size nrtl_size unifac_size counts_at
  covered Wilson h = wilson-covered h
  covered Uniquac h = uniquac-covered h
  covered Nrtl h = nrtl-covered h
  covered Unifac h =
      elim (le-or (ng + ng) p) [
        | inr g ↦ sizes-covered g
        | inl g ↦ elim (le-or (ng + ng + ng * ng * 5) p) [ inr f ↦ tds-covered g f | inl f ↦ counts-covered f h ]
      ]

pub values-named : ValuesNamed
values-named d p f h =
    let c = covered d p d.model (rw (sound d f).size at h) in
    record { setting = c.setting; over = c.over; once = λ s o. once d p s c.setting o c.over }

pub within : Within
within d s f c = rw (sound d f).size (store_in d s c)
