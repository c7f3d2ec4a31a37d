-- The plain call on a book's holdings: written out in the strip's order they are read back by name, and a book that calls
-- made passes every check.
use mathlib.Core.Path.{◌≡◌, refl, sym, ap, ◌∙◌, subst}
use mathlib.Core.Bool.{Bool, true, false, ◌&&◌, cond}
use mathlib.Core.List.{List, [], ◌∷◌, ◌++◌}
use mathlib.Core.Logic.{inl, inr}
use mathlib.Core.Option.{Option, none, some}
use Prim.Native.Nat.{ℕ, zero, suc, ◌+◌, ◌*◌, ◌<◌, ◌≤◌}
use native.Mathlib.Omega.{arith}
use lib.Dec.{leb, eqb}
use lib.ListN.{length, get_or, length-append}
use lib.Ieee.{Float, nan, lt}
use borrow.Author.Tests.{le-leb, lt-ltb, eq-eqb, eqb-true}
use Rattle.arithmetic.specs.Floats.{+0}
use Rattle.arithmetic.specs.Tables.{at, from}
use Rattle.arithmetic.specs.declared.parameters.TdParam.{TdParam}
use Rattle.arithmetic.proofs.Tests.{either}
use Rattle.arithmetic.proofs.TableLaws.{cell-lt, from_at}
use Rattle.models.specs.declared.answers.Quantity.{Quantity}
use Rattle.arithmetic.specs.Refusals.{Value}
use Rattle.models.specs.Answers.{answer, first, number_of as plain_number, values_of as plain_values}
use Rattle.models.specs.Faults.{index_fault, shape_fault, fractions_fault, lists_fault, place_fault, groups_fault, unifac_fault, tolerance_fault, data_fault, mix_fault}
use Rattle.models.specs.Plain.{value_at, plain_call}
use Rattle.models.specs.Values.{td_grid, wilson_size, energies, volumes, uniquac_size, rs, qs, nrtl_size, taus, alphas, counts_at, group_rs, group_qs, group_as, start, unifac_size, lists}
use Rattle.models.proofs.ToleranceLaws.{usual_passes}
use Rattle.models.proofs.GroupListLaws.{list_place}
use Rattle.models.specs.declared.model.Model.{Model}
use Rattle.models.specs.declared.model.Model.TheVariants.{Wilson, Uniquac, Nrtl, Unifac}
use Rattle.mixture.specs.declared.setting.Setting.{Setting}
use Rattle.mixture.specs.declared.setting.Setting.TheVariants.{Temperature, Entry, TdEntry, Size, Count, Tolerance}
use Rattle.mixture.specs.Answers.{Answer as MixtureAnswer, Done, Value as Answered, number_of, values_of, counts_of, unless}
use Rattle.mixture.specs.Lists.{row, rows}
use Rattle.mixture.specs.Holdings.{Held, held, entries, td_entries, sizes}
use Rattle.models.specs.Model.{ModelData, by_model, size_of}
use Rattle.mixture.specs.Faults.{has_entry, has_td_entry, has_size, has_count, case_fault}
use Rattle.mixture.specs.Calls.{exponential}
use Rattle.mixture.specs.Book.{Mix, mix, Call, Open, Load, Set, Fractions, Query, Book, empty, replaced, holding, set_in, set_tolerance, set_model, book_after, plain, having, touched_cells, setting_answer, query_answer, book_answer, accepted, since, book_answers, book_of, past_of}
use Rattle.mixture.specs.PlainCall.{OneMore, PlainCall}
use Rattle.mixture.specs.WrittenBack.{fives, values_in, data_of}
use Rattle.mixture.proofs.ListLaws.{never}
use Rattle.mixture.proofs.PlaceLaws.{passed, spared, nought, below-is}
use Rattle.mixture.proofs.History.AgreeLaws.{Agrees, set-alike}
use Rattle.mixture.proofs.History.RangeLaws.{first_to-none, at_all, Sound, sound}
use Rattle.mixture.proofs.History.CellLaws.{exponential-same, value_by-same, plain-is}
use Rattle.mixture.proofs.RowLaws.{get_or_after, get_or-before, length-row, row_at, before, before_in, before-start, InRow, in_row_lem, length-rows, rows_at, length-table, table_at, length-tds, tds-at, five-after, five-before}

-- ---- the names are read back

module _ (d : Held) where
  abbrev n : ℕ
  n = d.n

  abbrev ng : ℕ
  ng = d.ng

  abbrev table : List Float
  table = rows n (λ _. n) d.entry

  abbrev sizes0 : ℕ → List Float
  sizes0 m = row m (λ i. d.size i 0)

  abbrev sizes1 : ℕ → List Float
  sizes1 m = row m (λ i. d.size i 1)

  abbrev tds : ℕ → List Float
  tds m = fives (rows m (λ _. m) d.td_entry)

  abbrev counts : List Float
  counts = rows n d.lists.length d.lists.count

  length_two : length (table ++ sizes0 n) ≡ n * n + n
  length_two = rw (length-append table (sizes0 n), length-table n n d.entry, length-row n (λ i. d.size i 0))

  length-groups : length (sizes0 ng ++ sizes1 ng) ≡ ng + ng
  length-groups = rw (length-append (sizes0 ng) (sizes1 ng), length-row ng (λ i. d.size i 0), length-row ng (λ i. d.size i 1))

  length_front : length (sizes0 ng ++ sizes1 ng ++ tds ng) ≡ counts_at ng
  unfolding counts_at
  length_front = rw (length-append (sizes0 ng ++ sizes1 ng) (tds ng), length-groups, length-tds ng ng d.td_entry)

  -- the parts that the values of Wilson and UNIQUAC begin with
  in_table : (ys : List Float) (i j : ℕ) → i < n → j < n → at (table ++ ys) (i * n + j) ≡ d.entry i j
  in_table ys i j h g = get_or-before table ys (n * n) (i * n + j) nan (length-table n n d.entry) (cell-lt n n i j h g) ∙ table_at n n d.entry i j nan h g

  in_sizes : (i : ℕ) → i < n → at (table ++ sizes0 n) (n * n + i) ≡ d.size i 0
  in_sizes i h = get_or_after table (sizes0 n) (n * n) i nan (length-table n n d.entry) ∙ row_at n (λ i. d.size i 0) i nan h

  in_two : (k : ℕ) → k < n * n + n → at (table ++ sizes0 n ++ sizes1 n) k ≡ at (table ++ sizes0 n) k
  in_two k h = get_or-before (table ++ sizes0 n) (sizes1 n) (n * n + n) k nan length_two h

  -- those that UNIFAC's begin with
  in_groups : (k : ℕ) → k < ng + ng → at (sizes0 ng ++ sizes1 ng ++ tds ng ++ counts) k ≡ at (sizes0 ng ++ sizes1 ng) k
  unfolding counts_at
  in_groups k h =
      get_or-before (sizes0 ng ++ sizes1 ng ++ tds ng) counts (ng + ng + ng * ng * 5) k nan length_front (omega arith)
      ∙ get_or-before (sizes0 ng ++ sizes1 ng) (tds ng) (ng + ng) k nan length-groups h

  entry-back : (i j : ℕ) → has_entry d i j ≡ true → entries (data_of d) i j ≡ d.entry i j
  unfolding entries values_in energies alphas has_entry
  entry-back i j h = go d.model refl
    where
      go : (k : Model) → d.model ≡ k → entries (data_of d) i j ≡ d.entry i j
      go Wilson e = let b = below-is i n j n (rw e at h) in rw e (in_table (sizes0 n) i j b.0 b.1)
      go Uniquac e =
          let b = below-is i n j n (rw e at h) in
          rw e (in_two (i * n + j) (omega (arith, cell-lt n n i j b.0 b.1)) ∙ in_table (sizes0 n) i j b.0 b.1)
      go Nrtl e =
          let b = below-is i n j n (rw e at h) in
          rw e (get_or_after (tds n) table (n * n * 5) (i * n + j) nan (length-tds n n d.td_entry) ∙ table_at n n d.entry i j nan b.0 b.1)
      go Unifac e = never (sym (rw e at h))

  td_back : (i j : ℕ) → has_td_entry d i j ≡ true → td_entries (data_of d) i j ≡ d.td_entry i j
  unfolding td_entries values_in taus td_grid group_as has_td_entry counts_at
  td_back i j h = go d.model refl
    where
      go : (k : Model) → d.model ≡ k → td_entries (data_of d) i j ≡ d.td_entry i j
      go Wilson e = never (sym (rw e at h))
      go Uniquac e = never (sym (rw e at h))
      go Nrtl e =
          let b = below-is i n j n (rw e at h) in
          rw e (five-before (tds n) table (n * n * 5) ((i * n + j) * 5) (length-tds n n d.td_entry) (omega (arith, cell-lt n n i j b.0 b.1)) ∙ tds-at n n d.td_entry i j b.0 b.1)
      go Unifac e =
          let b = below-is i ng j ng (rw e at h) in
          rw e
          (five-before (sizes0 ng ++ sizes1 ng ++ tds ng) counts (ng + ng + ng * ng * 5) (ng + ng + (i * ng + j) * 5) length_front (omega (arith, cell-lt ng ng i j b.0 b.1))
          ∙ five-after (sizes0 ng ++ sizes1 ng) (tds ng) (ng + ng) ((i * ng + j) * 5) length-groups ∙ tds-at ng ng d.td_entry i j b.0 b.1)

  size_back : (i w : ℕ) → has_size d i w ≡ true → sizes (data_of d) i w ≡ d.size i w
  unfolding sizes values_in volumes rs qs group_rs group_qs has_size
  size_back i w h = go d.model refl w h
    where
      go : (k : Model) → d.model ≡ k → (w : ℕ) → has_size d i w ≡ true → sizes (data_of d) i w ≡ d.size i w
      go Wilson e zero h = let b = below-is i n 0 1 (rw e at h) in rw e (in_sizes i b.0)
      go Wilson e (suc w) h = let b = below-is i n (suc w) 1 (rw e at h) in absurd (omega arith)
      go Uniquac e zero h = let b = below-is i n 0 2 (rw e at h) in rw e (in_two (n * n + i) (omega arith) ∙ in_sizes i b.0)
      go Uniquac e (suc zero) h =
          let b = below-is i n 1 2 (rw e at h) in
          rw e (get_or_after (table ++ sizes0 n) (sizes1 n) (n * n + n) i nan length_two ∙ row_at n (λ i. d.size i 1) i nan b.0)
      go Uniquac e (suc (suc w)) h = let b = below-is i n (suc (suc w)) 2 (rw e at h) in absurd (omega arith)
      go Nrtl e w h = never (sym (rw e at h))
      go Unifac e zero h =
          let b = below-is i ng 0 2 (rw e at h) in
          rw e (in_groups i (omega arith) ∙ get_or-before (sizes0 ng) (sizes1 ng) ng i nan (length-row ng (λ i. d.size i 0)) b.0 ∙ row_at ng (λ i. d.size i 0) i nan b.0)
      go Unifac e (suc zero) h =
          let b = below-is i ng 1 2 (rw e at h) in
          rw e (in_groups (ng + i) (omega arith) ∙ get_or_after (sizes0 ng) (sizes1 ng) ng i nan (length-row ng (λ i. d.size i 0)) ∙ row_at ng (λ i. d.size i 1) i nan b.0)
      go Unifac e (suc (suc w)) h = let b = below-is i ng (suc (suc w)) 2 (rw e at h) in absurd (omega arith)

  -- the counts, list after list
  counted : d.model ≡ Unifac → (p : ℕ) → p < before d.lists.length n → at (from (counts_at ng) (values_in d)) p ≡ at counts p
  unfolding values_in
  counted e p h =
      rw e
      (from_at (sizes0 ng ++ sizes1 ng ++ tds ng ++ counts) (counts_at ng) p
      (rw (length-append (sizes0 ng ++ sizes1 ng ++ tds ng) counts, length_front, length-rows d.lists.length d.lists.count n) (omega arith))
      ∙ get_or_after (sizes0 ng ++ sizes1 ng ++ tds ng) counts (counts_at ng) p nan length_front)

  pub back : Agrees (held (data_of d)) d
  unfolding lists has_count
  back =
      record {
        alike =
            record {
              model = refl;
              n = refl;
              groups = λ e.
                  record {
                    ng = refl;
                    length = λ i h. row_at n d.lists.length i 0 h;
                    group = λ i p h g.
                        rw (before-start n d.lists.length i (omega arith)) (rows_at d.lists.length d.lists.group n i p 0 h g);
                  };
            };
        entry = entry-back;
        td_entry = td_back;
        size = size_back;
        count = λ i j h. count-back d.model refl i j h;
      }
    where
      count-back : (k : Model) → d.model ≡ k → (i j : ℕ) → has_count d i j ≡ true → (held (data_of d)).lists.count i j ≡ d.lists.count i j
      count-back Wilson e i j h = never (sym (rw e at h))
      count-back Uniquac e i j h = never (sym (rw e at h))
      count-back Nrtl e i j h = never (sym (rw e at h))
      count-back Unifac e i j h =
          let b = below-is i n j (d.lists.length i) (rw e at h) in
          rw (before-start n d.lists.length i (omega arith))
          (counted e (before d.lists.length i + j) (before_in d.lists.length i n j b.0 b.1)
          ∙ rows_at d.lists.length d.lists.count n i j nan b.0 b.1)

-- ---- a book that calls made passes the checks

-- UNIFAC's lists
record ProperLists (d : Held) : Type 0 where
  some : 1 ≤ d.ng
  few : d.ng ≤ 32
  short : (i : ℕ) → i < d.n → d.lists.length i ≤ 12
  group : (i p : ℕ) → i < d.n → p < d.lists.length i → d.lists.group i p < d.ng
  count : (i p : ℕ) → i < d.n → p < d.lists.length i → lt (d.lists.count i p) +0 ≡ false

record Proper (d : Held) : Type 0 where
  some : 1 ≤ d.n
  few : d.n ≤ 12
  lists : d.model ≡ Unifac → ProperLists d

load_proper : (e : ModelData) → Sound e → Proper (held e)
unfolding lists
load_proper e s =
    record {
      some = s.some;
      few = s.few;
      lists = λ q.
          let l = s.lists q in
          record {
            some = l.some;
            few = l.few;
            short = l.short;
            group = λ i p h g. l.group (start e.lens i + p) (list_place e.lens i e.n p h g);
            count = λ i p h g. l.count (start e.lens i + p) (list_place e.lens i e.n p h g);
          };
    }

-- other entries, td entries and sizes leave a proper model proper, and so do counts that aren't below 0
values_proper : (d : Held) → Proper d → (e : ℕ → ℕ → Float) (t : ℕ → ℕ → TdParam) (s k : ℕ → ℕ → Float)
    → ((i p : ℕ) → lt (d.lists.count i p) +0 ≡ false → lt (k i p) +0 ≡ false) → Proper (holding d e t s k)
values_proper d p e t s k counts =
    record {
      some = p.some;
      few = p.few;
      lists = λ q. let l = p.lists q in record { some = l.some; few = l.few; short = l.short; group = l.group; count = λ i r h g. counts i r (l.count i r h g) };
    }

set_proper : (s : Setting) (d : Held) → case_fault d s ≡ 0 → Proper d → Proper (set_in s d)
unfolding set_in case_fault replaced
set_proper (Temperature T) d f p = p
set_proper (Tolerance ε) d f p = p
set_proper (Entry i j v) d f p = values_proper d p _ _ _ _ (λ r s h. h)
set_proper (TdEntry i j v) d f p = values_proper d p _ _ _ _ (λ r s h. h)
set_proper (Size i w v) d f p = values_proper d p _ _ _ _ (λ r s h. h)
set_proper (Count i j v) d f p = values_proper d p _ _ _ _ (λ r s h. replaced-count r s h (passed (has_count d i j) _ 10 (nought 9) f).1)
  where
    replaced-count : (r s : ℕ) → lt (d.lists.count r s) +0 ≡ false → ◌≡◌ {A = ℕ} (cond (lt v +0) 4 0) 0 → lt (replaced d.lists.count i j v r s) +0 ≡ false
    replaced-count r s old new =
        elim (either (eqb r i && eqb s j)) [
          | inl e ↦ rw e (spared (lt v +0) 0 4 (nought 3) new).0
          | inr e ↦ rw e old
        ]

-- an accepted tolerance is in range, and no other setting changes it
set-tolerance : (s : Setting) (d : Held) (ε : Float) → case_fault d s ≡ 0 → tolerance_fault ε ≡ 0 → tolerance_fault (set_tolerance s ε) ≡ 0
unfolding set_tolerance case_fault
set-tolerance (Temperature T) d ε f p = p
set-tolerance (Entry i j v) d ε f p = p
set-tolerance (TdEntry i j v) d ε f p = p
set-tolerance (Size i w v) d ε f p = p
set-tolerance (Count i j v) d ε f p = p
set-tolerance (Tolerance δ) d ε f p = f

-- ---- the checks of the plain call

length-values : (d : Held) → length (values_in d) ≡ size_of (data_of d)
unfolding values_in wilson_size uniquac_size nrtl_size unifac_size
length-values d = go d.model refl
  where
    go : (k : Model) → d.model ≡ k → length (values_in d) ≡ size_of (data_of d)
    go Wilson e = rw e (length_two d)
    go Uniquac e = rw e (rw (length-append (table d ++ sizes0 d d.n) (sizes1 d d.n), length_two d, length-row d.n (λ i. d.size i 1)))
    go Nrtl e = rw e (rw (length-append (tds d d.n) (table d), length-tds d.n d.n d.td_entry, length-table d.n d.n d.entry))
    go Unifac e =
        rw e
        (rw (
          length-append (sizes0 d d.ng ++ sizes1 d d.ng ++ tds d d.ng) (counts d),
          length_front d,
          length-rows d.lists.length d.lists.count d.n,
          before-start d.n d.lists.length d.n (omega arith),
        ))

shape-passes : (n size : ℕ) (v : List Float) → 1 ≤ n → n ≤ 12 → length v ≡ size → shape_fault n size v ≡ 0
unfolding shape_fault
shape-passes n size v a b e = rw (le-leb 1 n a, le-leb n 12 b, eq-eqb (length v) size e)

unifac-passes : (d : Held) → d.model ≡ Unifac → Proper d
    → unifac_fault d.n d.ng (row d.n d.lists.length) (rows d.n d.lists.length d.lists.group) (values_in d) ≡ 0
unfolding unifac_fault lists_fault groups_fault place_fault
unifac-passes d e p =
    let l = p.lists e in
    let len = d.lists.length in
    let places : length (rows d.n len d.lists.group) ≡ start (row d.n len) d.n =
    length-rows len d.lists.group d.n ∙ sym (before-start d.n len d.n (omega arith)) in
    rw (
      le-leb 1 d.n p.some,
      le-leb d.n 12 p.few,
      le-leb 1 d.ng l.some,
      le-leb d.ng 32 l.few,
      eq-eqb (length (row d.n len)) d.n (length-row d.n len),
      at_all d.n (λ i. leb (get_or (row d.n len) i 0) 12) (λ i b. rw (row_at d.n len i 0 b) (le-leb _ _ (l.short i b))),
      eq-eqb _ _ places,
      eq-eqb (length (values_in d)) (unifac_size d.ng (start (row d.n len) d.n)) (length-values d ∙ rw e),
    )
    (first_to-none (length (rows d.n len d.lists.group)) _
    (λ r h. place-passes r (in_row_lem len d.n r (rw (length-rows len d.lists.group d.n) at h))))
  where
    place-passes : (r : ℕ) → InRow d.lists.length d.n r
        → place_fault d.ng (rows d.n d.lists.length d.lists.group) (from (counts_at d.ng) (values_in d)) r ≡ 0
    place-passes r w =
        let l = p.lists e in
        let len = d.lists.length in
        rw (
          w.place,
          rows_at len d.lists.group d.n w.i w.j 0 w.row w.column,
          lt-ltb _ _ (l.group w.i w.j w.row w.column),
          counted d e (before len w.i + w.j) (before_in len w.i d.n w.j w.row w.column),
          rows_at len d.lists.count d.n w.i w.j nan w.row w.column,
          l.count w.i w.j w.row w.column,
        )

by_model_lem : {A : Type 0} (k : Model) {a b c d x : A} → (k ≡ Wilson → a ≡ x) → (k ≡ Uniquac → b ≡ x) → (k ≡ Nrtl → c ≡ x) → (k ≡ Unifac → d ≡ x) → by_model k a b c d ≡ x
by_model_lem Wilson p q r s = p refl
by_model_lem Uniquac p q r s = q refl
by_model_lem Nrtl p q r s = r refl
by_model_lem Unifac p q r s = s refl

data_passes : (d : Held) → Proper d → data_fault (data_of d) ≡ 0
unfolding data_fault
data_passes d p =
    let shape = shape-passes d.n (size_of (data_of d)) (values_in d) p.some p.few (length-values d) in
    by_model_lem d.model (λ e. shape) (λ e. shape) (λ e. shape) (λ e. unifac-passes d e p)

-- ---- the plain call and its value

-- a plain call is its faults, and the value at its names
plain_call-is : (e : ModelData) (T ε : Float) (x : List Float) (q : Quantity)
    → plain_call e T ε x q ≡ answer (first (data_fault e) (fractions_fault ε e.n x q)) (plain (held e) T x q)
unfolding plain_call value_at plain entries td_entries sizes
plain_call-is e T ε x q = go e.model refl
  where
    go : (k : Model) → e.model ≡ k → plain_call e T ε x q ≡ answer (first (data_fault e) (fractions_fault ε e.n x q)) (plain (held e) T x q)
    go Wilson p = rw p
    go Uniquac p = rw p
    go Nrtl p = rw p
    go Unifac p = rw p

-- holdings that agree have the same plain value
plain-same : (c d : Held) → Agrees c d → (d.model ≡ Unifac → ProperLists d) → (T : Float) (x : List Float) (q : Quantity) → index_fault d.n q ≡ 0 → plain c T x q ≡ plain d T x q
plain-same c d a l T x q z =
    sym (plain-is c T x q)
    ∙ (value_by-same c d a T (exponential c T) (exponential d T) (at x) (at x) (λ i j hi hj t. exponential-same c d a T i j hi hj) (λ i h. refl)
    (λ e. (l e).group) q z
    ∙ plain-is d T x q)

fractions_pass : (ε : Float) (n : ℕ) (x : List Float) (q : Quantity) → tolerance_fault ε ≡ 0 → mix_fault ε n x ≡ 0 → index_fault n q ≡ 0 → fractions_fault ε n x q ≡ 0
unfolding fractions_fault
fractions_pass ε n x q t m z = rw (t, m, z)

plain-answers : (d : Held) (T ε : Float) (x : List Float) (q : Quantity) → Proper d → tolerance_fault ε ≡ 0 → mix_fault ε d.n x ≡ 0 → index_fault d.n q ≡ 0
    → plain_call (data_of d) T ε x q ≡ Value (plain d T x q)
unfolding answer
plain-answers d T ε x q p t m z =
    plain_call-is (data_of d) T ε x q
    ∙ rw (data_passes d p, fractions_pass ε d.n x q t m z, plain-same (held (data_of d)) d (back d) p.lists T x q z)

-- ---- every book that calls made

-- its fractions pass the check under their own tolerance
abbrev ProperMix : ℕ → Mix → Type 0
ProperMix n x = (tolerance_fault x.under ≡ 0) × (mix_fault x.under n x.fractions ≡ 0)

abbrev ProperBook : Option Held → Option Mix → Float → Type 0
ProperBook none x ε = Unit {0}
ProperBook (some d) none ε = Proper d × (tolerance_fault ε ≡ 0)
ProperBook (some d) (some x) ε = Proper d × (tolerance_fault ε ≡ 0) × ProperMix d.n x

-- the number of an accepted call
took : (k : ℕ) (v : MixtureAnswer) → eqb (number_of (unless k v)) 0 ≡ true → k ≡ 0
unfolding number_of
took k v h =
    elim (either (eqb k 0)) [
      | inl e ↦ eqb-true k 0 e
      | inr e ↦ eqb-true k 0 (rw e at h)
    ]

after_proper : (b : Book) (past : List Call) (c : Call) → accepted b past c ≡ true → ProperBook b.model b.x b.tolerance
    → ProperBook (book_after b c).model (book_after b c).x (book_after b c).tolerance
unfolding book_after book_answer setting_answer empty set_model having number_of
after_proper b past Open t p = tt
after_proper b past (Load e) t p = (load_proper e (sound e (took (data_fault e) Done t)), usual_passes)
after_proper b past (Set s) t p = set-case b.model b.x t p
  where
    set-case : (o : Option Held) (x : Option Mix) → eqb (number_of (having 8 o (λ d. unless (case_fault d s) Done))) 0 ≡ true
        → ProperBook o x b.tolerance → ProperBook (set_model s o) x (set_tolerance s b.tolerance)
    set-case none x t p = tt
    set-case (some d) none t p = let f = took (case_fault d s) Done t in (set_proper s d f p.0, set-tolerance s d b.tolerance f p.1)
    set-case (some d) (some x) t p =
        let f = took (case_fault d s) Done t in
        (set_proper s d f p.0, set-tolerance s d b.tolerance f p.1, subst (λ (n : ℕ). ProperMix n x) (set-alike s d).n p.2)
after_proper b past (Fractions x) t p = mix-case b.model b.x t p
  where
    ε : Float
    ε = b.tolerance

    mix-case : (o : Option Held) (u : Option Mix) → eqb (number_of (having 8 o (λ d. unless (mix_fault ε d.n x) Done))) 0 ≡ true → ProperBook o u ε → ProperBook o (some (mix x ε)) ε
    mix-case none u t p = tt
    mix-case (some d) none t p = (p.0, p.1, (p.1, took (mix_fault ε d.n x) Done t))
    mix-case (some d) (some u) t p = (p.0, p.1, (p.1, took (mix_fault ε d.n x) Done t))
after_proper b past (Query q) t p = p

of_proper : (cs : List Call) (b : Book) (past : List Call) → ProperBook b.model b.x b.tolerance
    → ProperBook (book_of b past cs).model (book_of b past cs).x (book_of b past cs).tolerance
unfolding book_of
of_proper [] b past p = p
of_proper (c ∷ cs) b past p =
    elim (either (accepted b past c)) [
      | inl t ↦ rw t (of_proper cs (book_after b c) (c ∷ past) (after_proper b past c t p))
      | inr t ↦ rw t (of_proper cs b past p)
    ]

-- what a book with all three answers to a query
book-answers : (b : Book) (past : List Call) (d : Held) (T : Float) (x : Mix) (q : Quantity)
    → b.model ≡ some d → b.T ≡ some T → b.x ≡ some x → index_fault d.n q ≡ 0
    → book_answer b past (Query q) ≡ Answered (plain d T x.fractions q) (touched_cells d (since past))
unfolding book_answer query_answer having
book-answers b past d T x q p r s z = rw (p, r, s, z)

pub plain_call_lem : PlainCall
unfolding empty plain_number plain_values values_of counts_of
plain_call_lem cs past d T x q r s u z =
    let b = book_of empty [] cs in
    let o : ProperBook (some d) b.x b.tolerance = subst (λ (o : Option Held). ProperBook o b.x b.tolerance) r (of_proper cs empty [] tt) in
    let p : ProperBook (some d) (some x) b.tolerance = subst (λ (o : Option Mix). ProperBook (some d) o b.tolerance) u o in
    let plainly = plain-answers d T x.under x.fractions q p.0 p.2.0 p.2.1 z in
    rw (plainly, book-answers (book_of empty [] cs) past d T x q r s u z) (refl, refl, refl)

-- ---- one more call

more : (cs : List Call) (b : Book) (past : List Call) (c : Call) → book_answers b past (cs ++ c ∷ []) ≡ book_answers b past cs ++ book_answer (book_of b past cs) (past_of b past cs) c ∷ []
unfolding book_answers book_of past_of
more [] b past c = ap (λ (l : List MixtureAnswer). book_answer b past c ∷ l) (none_left (accepted b past c))
  where
    none_left : (t : Bool) → ◌≡◌ {A = List MixtureAnswer} (cond t [] []) []
    none_left true = refl
    none_left false = refl
more (a ∷ cs) b past c =
    elim (either (accepted b past a)) [
      | inl e ↦ rw (e, more cs (book_after b a) (a ∷ past) c) refl
      | inr e ↦ rw (e, more cs b past c) refl
    ]

pub one_more : OneMore
one_more calls c = more calls empty [] c
