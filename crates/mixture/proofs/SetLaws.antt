-- A setting by model: what it is declined for, where its numbers stand, and that both look at the head alone; the cells that it makes stale, and its reply.
use mathlib.Core.Path.{◌≡◌, refl, sym, ap, ◌∙◌}
use mathlib.Core.Bool.{Bool, true, false, ◌&&◌, ◌||◌, cond, or-false, or-true, and-false}
use mathlib.Core.List.{List}
use Prim.Native.Nat.{ℕ, ◌+◌, ◌*◌, ◌/◌, ◌%◌, ◌<◌, ◌≤◌}
use native.Mathlib.Nat.{zero-add, zero-mul, mul-le-mul}
use native.Mathlib.Omega.{arith}
use lib.Dec.{ltb, eqb}
use lib.Seq.{sets}
use lib.ListN.{length, get_or}
use lib.Ieee.{Float, lt}
use borrow.Author.Tests.{le-ltb, eq-eqb, ne_eqb}
use Rattle.arithmetic.specs.Floats.{+0}
use Rattle.arithmetic.specs.declared.parameters.TdParam.{TdParam}
use Rattle.models.specs.Faults.{tolerance_fault}
use Rattle.models.specs.Values.{counts_at, start, lists}
use Rattle.models.proofs.GroupListLaws.{start_up}
use Rattle.mixture.specs.declared.head.Head.{Head}
use Rattle.models.specs.declared.model.Model.{Model}
use Rattle.models.specs.declared.model.Model.TheVariants.{Wilson, Uniquac, Nrtl, Unifac}
use Rattle.mixture.specs.declared.setting.Setting.{Setting}
use Rattle.mixture.specs.declared.setting.Setting.TheVariants.{Temperature, Entry, TdEntry, Size, Count, Tolerance}
use Rattle.mixture.specs.Answers.{Done}
use Rattle.mixture.specs.declared.stale.Block.{Block}
use Rattle.mixture.specs.Lists.{written}
use Rattle.mixture.specs.Holdings.{Held, held}
use Rattle.mixture.specs.Cells.{width, is_cell}
use Rattle.models.specs.Model.{by_model, table_width, has_groups, model_of}
use Rattle.mixture.specs.Faults.{below, has_entry, has_td_entry, has_size, has_count, case_fault, in_range, head_fault, setting_fault}
use Rattle.mixture.specs.Memory.{Memory, memory, least_values, least_marks, after}
use Rattle.mixture.specs.Layout.{data_in, place, numbers, cell_at}
use Rattle.mixture.specs.Calls.{stales, stales_at, set_memory, set_head, after_setting}
use Rattle.mixture.specs.Steps.Blocks.{in_block, BlockFits, block, block_of, head_only, Settable, CountFits, set_after}
use Rattle.mixture.proofs.ListLaws.{never, written_same}
use Rattle.mixture.proofs.PlaceLaws.{below-is, had, store_in}
use Rattle.mixture.proofs.History.RangeLaws.{first-is, bounds}
use Rattle.mixture.proofs.CallLaws.{refused, in_range_lem, head_passed}
use Rattle.mixture.proofs.BlockLaws.{one_cell, one-row, no_cells, every_cell}

-- ---- what a setting is declined for

module _ (m : Memory) (h : Head) {model : Model} (e : model ≡ model_of h.model) {w : ℕ} (f : w ≡ table_width model h.n h.ng) {s : Setting} where
  pub temperature-case : {T : Float} → s ≡ Temperature T → 0 ≡ case_fault (held (data_in m h)) s
  unfolding case_fault
  temperature-case g = rw g

  pub tolerance-case : {ε : Float} {r : ℕ} → s ≡ Tolerance ε → r ≡ tolerance_fault ε → r ≡ case_fault (held (data_in m h)) s
  unfolding case_fault
  tolerance-case g p = p ∙ rw g

  pub entry_case : {i j k r : ℕ} {v : Float} → s ≡ Entry i j v → k ≡ by_model model w w w 0 → r ≡ cond (below i k j k) 0 10 → r ≡ case_fault (held (data_in m h)) s
  unfolding case_fault has_entry
  entry_case {i} {j} g p q = q ∙ rw (g, p, f, ← e) (go model)
    where
      go : (t : Model) → let v = table_width t h.n h.ng in
          cond {A = ℕ} (below i (by_model t v v v 0) j (by_model t v v v 0)) 0 10 ≡ cond (by_model t (below i h.n j h.n) (below i h.n j h.n) (below i h.n j h.n) false) 0 10
      go Wilson = refl
      go Uniquac = refl
      go Nrtl = refl
      go Unifac = rw (le-ltb i 0 (omega arith))

  pub td_case : {i j k r : ℕ} {v : TdParam} → s ≡ TdEntry i j v → k ≡ by_model model 0 0 w w → r ≡ cond (below i k j k) 0 10 → r ≡ case_fault (held (data_in m h)) s
  unfolding case_fault has_td_entry
  td_case {i} {j} g p q = q ∙ rw (g, p, f, ← e) (go model)
    where
      go : (t : Model) → let v = table_width t h.n h.ng in
          cond {A = ℕ} (below i (by_model t 0 0 v v) j (by_model t 0 0 v v)) 0 10 ≡ cond (by_model t false false (below i h.n j h.n) (below i h.ng j h.ng)) 0 10
      go Wilson = rw (le-ltb i 0 (omega arith))
      go Uniquac = rw (le-ltb i 0 (omega arith))
      go Nrtl = refl
      go Unifac = refl

  pub size-case : {i which k r : ℕ} {v : Float} → s ≡ Size i which v → k ≡ by_model model 1 2 0 2 → r ≡ cond (below i w which k) 0 10 → r ≡ case_fault (held (data_in m h)) s
  unfolding case_fault has_size
  size-case {i} {which} g p q = q ∙ rw (g, p, f, ← e) (go model)
    where
      go : (t : Model) → cond {A = ℕ} (below i (table_width t h.n h.ng) which (by_model t 1 2 0 2)) 0 10
          ≡ cond (by_model t (below i h.n which 1) (below i h.n which 2) false (below i h.ng which 2)) 0 10
      go Wilson = refl
      go Uniquac = refl
      go Nrtl = rw (le-ltb which 0 (omega arith), and-false (ltb i h.n))
      go Unifac = refl

  pub count-case : {i j r : ℕ} {v : Float} → s ≡ Count i j v
      → r ≡ cond (below i (by_model model 0 0 0 h.n) j (get_or h.lens i 0)) (cond (lt v +0) 4 0) 10 → r ≡ case_fault (held (data_in m h)) s
  unfolding case_fault has_count lists
  count-case {i} {j} {r} {v} g q = q ∙ rw (g, ← e) (go model)
    where
      go : (t : Model) → cond {A = ℕ} (below i (by_model t 0 0 0 h.n) j (get_or h.lens i 0)) (cond (lt v +0) 4 0) 10
          ≡ cond (by_model t false false false (below i h.n j (get_or h.lens i 0))) (cond (lt v +0) 4 0) 10
      go Wilson = rw (le-ltb i 0 (omega arith))
      go Uniquac = rw (le-ltb i 0 (omega arith))
      go Nrtl = rw (le-ltb i 0 (omega arith))
      go Unifac = refl

-- ---- by model

module _ (n ng i j : ℕ) where
  entry-below : (t : Model) → by_model t (below i n j n) (below i n j n) (below i n j n) false ≡ true → (i < table_width t n ng) × (j < table_width t n ng)
  entry-below Wilson h = below-is i n j n h
  entry-below Uniquac h = below-is i n j n h
  entry-below Nrtl h = below-is i n j n h
  entry-below Unifac h = never (sym h)

  td_below : (t : Model) → by_model t false false (below i n j n) (below i ng j ng) ≡ true → (i < table_width t n ng) × (j < table_width t n ng)
  td_below Wilson h = never (sym h)
  td_below Uniquac h = never (sym h)
  td_below Nrtl h = below-is i n j n h
  td_below Unifac h = below-is i ng j ng h

  size_below : (t : Model) → by_model t (below i n j 1) (below i n j 2) false (below i ng j 2) ≡ true → (i < table_width t n ng) × (j < 2)
  size_below Wilson h = let b = below-is i n j 1 h in (b.0, omega arith)
  size_below Uniquac h = below-is i n j 2 h
  size_below Nrtl h = never (sym h)
  size_below Unifac h = below-is i ng j 2 h

  entry_where : (t : Model) → by_model t (below i n j n) (below i n j n) (below i n j n) false ≡ true → let w = table_width t n ng in
      by_model t 0 0 (w * w * 5) 0 + (i * w + j) ≡ by_model t (i * n + j) (i * n + j) (n * n * 5 + (i * n + j)) 0
  entry_where Wilson h = zero-add (i * n + j)
  entry_where Uniquac h = zero-add (i * n + j)
  entry_where Nrtl h = refl
  entry_where Unifac h = never (sym h)

  td_where : (t : Model) → by_model t false false (below i n j n) (below i ng j ng) ≡ true → let w = table_width t n ng in
      by_model t 0 0 0 (w + w) + (i * w + j) * 5 ≡ by_model t 0 0 ((i * n + j) * 5) (ng + ng + (i * ng + j) * 5)
  td_where Wilson h = never (sym h)
  td_where Uniquac h = never (sym h)
  td_where Nrtl h = zero-add ((i * n + j) * 5)
  td_where Unifac h = refl

  size_where : (t : Model) → by_model t (below i n j 1) (below i n j 2) false (below i ng j 2) ≡ true → let w = table_width t n ng in
      by_model t (w * w) (w * w) 0 0 + (j * w + i) ≡ by_model t (n * n + i) (n * n + (j * n + i)) 0 (j * ng + i)
  size_where Wilson h = let z : j ≡ 0 = omega (arith, (below-is i n j 1 h).1) in rw (z, zero-mul n, zero-add i)
  size_where Uniquac h = refl
  size_where Nrtl h = never (sym h)
  size_where Unifac h = zero-add (j * ng + i)

unifac_alone : (t : Model) (a : Bool) → by_model t false false false a ≡ true → (t ≡ Unifac) × (a ≡ true)
unifac_alone Wilson a h = never (sym h)
unifac_alone Uniquac a h = never (sym h)
unifac_alone Nrtl a h = never (sym h)
unifac_alone Unifac a h = (refl, h)

-- ---- where its numbers stand

module _ (h : Head) {s : Setting} (ok : Settable h s) {model : Model} (e : model ≡ model_of h.model) {w : ℕ} (f : w ≡ table_width model h.n h.ng) where
  width_in : (1 ≤ w) × (w ≤ 32)
  unfolding width
  width_in = rw (f, e) (bounds (head_only h) ok.range).wide

  module _ {i j : ℕ} {v : Float} (g : s ≡ Entry i j v) where
    has-entry : has_entry (held (head_only h)) i j ≡ true
    unfolding case_fault
    has-entry = had (has_entry (held (head_only h)) i j) 0 (rw g at ok.case)

    pub entry-within : (w ≤ 32) × (i < w) × (j < w)
    unfolding has_entry
    entry-within = let b = entry-below h.n h.ng i j (model_of h.model) has-entry in (width_in.1, rw (f, e) b.0, rw (f, e) b.1)

    pub entry_place : {r : ℕ} → r ≡ by_model model 0 0 (w * w * 5) 0 + (i * w + j) → r ≡ place (head_only h) s
    unfolding has_entry place
    entry_place p = p ∙ rw (g, f, e) (entry_where h.n h.ng i j (model_of h.model) has-entry)

  module _ {i j : ℕ} {v : TdParam} (g : s ≡ TdEntry i j v) where
    has_td : has_td_entry (held (head_only h)) i j ≡ true
    unfolding case_fault
    has_td = had (has_td_entry (held (head_only h)) i j) 0 (rw g at ok.case)

    pub td_within : (w ≤ 32) × (i < w) × (j < w)
    unfolding has_td_entry
    td_within = let b = td_below h.n h.ng i j (model_of h.model) has_td in (width_in.1, rw (f, e) b.0, rw (f, e) b.1)

    pub td_place : {r : ℕ} → r ≡ by_model model 0 0 0 (w + w) + (i * w + j) * 5 → r ≡ place (head_only h) s
    unfolding has_td_entry place
    td_place p = p ∙ rw (g, f, e) (td_where h.n h.ng i j (model_of h.model) has_td)

  module _ {i which : ℕ} {v : Float} (g : s ≡ Size i which v) where
    has-size : has_size (held (head_only h)) i which ≡ true
    unfolding case_fault
    has-size = had (has_size (held (head_only h)) i which) 0 (rw g at ok.case)

    pub size-within : (w ≤ 32) × (i < w) × (which < 2)
    unfolding has_size
    size-within = let b = size_below h.n h.ng i which (model_of h.model) has-size in (width_in.1, rw (f, e) b.0, b.1)

    pub size-place : {r : ℕ} → r ≡ by_model model (w * w) (w * w) 0 0 + (which * w + i) → r ≡ place (head_only h) s
    unfolding has_size place
    size-place p = p ∙ rw (g, f, e) (size_where h.n h.ng i which (model_of h.model) has-size)

module _ (h : Head) {s : Setting} (ok : Settable h s) {i j : ℕ} {v : Float} (g : s ≡ Count i j v) where
  has-count : (model_of h.model ≡ Unifac) × (below i h.n j (get_or h.lens i 0) ≡ true)
  unfolding case_fault has_count lists
  has-count = unifac_alone (model_of h.model) _ (had (has_count (held (head_only h)) i j) _ (rw g at ok.case))

  pub count-within : CountFits h.lens h.ng i j
  count-within =
      let r = bounds (head_only h) ok.range in
      let l = r.lists has-count.0 in
      let b = below-is i h.n j (get_or h.lens i 0) has-count.1 in
      record {
        groups = l.few;
        component = omega (arith, r.few);
        listed = omega (arith, l.short i b.0);
        before = omega (arith, l.places, start_up h.lens i h.n (omega arith));
      }

  pub count-place : {r : ℕ} → r ≡ counts_at h.ng + (start h.lens i + j) → r ≡ place (head_only h) s
  unfolding place
  count-place p = p ∙ rw (g, has-count.0)

pub temperature-place : (h : Head) {T : Float} {s : Setting} → s ≡ Temperature T → 0 ≡ place (head_only h) s
unfolding place
temperature-place h g = rw g

pub tolerance-place : (h : Head) {ε : Float} {s : Setting} → s ≡ Tolerance ε → 0 ≡ place (head_only h) s
unfolding place
tolerance-place h g = rw g

-- ---- the head alone

module _ (m : Memory) (h : Head) where
  range-only : in_range (data_in m h) ≡ in_range (head_only h)
  unfolding in_range
  range-only = refl

  case-only : (s : Setting) → case_fault (held (data_in m h)) s ≡ case_fault (held (head_only h)) s
  unfolding case_fault has_entry has_td_entry has_size has_count lists
  case-only (Temperature T) = refl
  case-only (Entry i j v) = refl
  case-only (TdEntry i j p) = refl
  case-only (Size i which v) = refl
  case-only (Count i j v) = refl
  case-only (Tolerance ε) = refl

  place-only : (s : Setting) → place (data_in m h) s ≡ place (head_only h) s
  unfolding place
  place-only (Temperature T) = refl
  place-only (Entry i j v) = refl
  place-only (TdEntry i j p) = refl
  place-only (Size i which v) = refl
  place-only (Count i j v) = refl
  place-only (Tolerance ε) = refl

  stales-only : (s : Setting) (c : ℕ) → stales_at (held (data_in m h)) s c ≡ stales_at (held (head_only h)) s c
  unfolding stales_at stales cell_at is_cell width
  stales-only (Temperature T) c = refl
  stales-only (Entry i j v) c = refl
  stales-only (TdEntry i j p) c = refl
  stales-only (Size i which v) c = refl
  stales-only (Count i j v) c = refl
  stales-only (Tolerance ε) c = refl

-- ---- the cells that it makes stale

module _ (h : Head) {model : Model} (e : model ≡ model_of h.model) {w : ℕ} (f : w ≡ table_width model h.n h.ng) where
  block-fits : (s : Setting) → Settable h s → ((block_of model w s).top + (block_of model w s).rows ≤ w) × ((block_of model w s).left + (block_of model w s).columns ≤ w)
  unfolding block_of
  block-fits (Temperature T) ok = (omega arith, omega arith)
  block-fits (Entry i j v) ok = go (eqb i j) model
    where
      b : (w ≤ 32) × (i < w) × (j < w)
      b = entry-within h ok e f refl

      go : (q : Bool) (t : Model) → let z = cond q (block i 1 (by_model t 0 0 j j) (by_model t w w 1 1)) (block i 1 j 1) in (z.top + z.rows ≤ w) × (z.left + z.columns ≤ w)
      go true Wilson = (omega (arith, b), omega arith)
      go true Uniquac = (omega (arith, b), omega arith)
      go true Nrtl = (omega (arith, b), omega (arith, b))
      go true Unifac = (omega (arith, b), omega (arith, b))
      go false t = (omega (arith, b), omega (arith, b))
  block-fits (TdEntry i j p) ok = let b = td_within h ok e f refl in (omega arith, omega arith)
  block-fits (Size i which v) ok = (omega arith, omega arith)
  block-fits (Count i j v) ok = (omega arith, omega arith)
  block-fits (Tolerance ε) ok = (omega arith, omega arith)

  module _ {diagonal : Bool} (g : diagonal ≡ has_groups model) where
    at_width : w ≡ width (held (head_only h))
    unfolding width
    at_width = f ∙ rw e

    at_diagonal : diagonal ≡ has_groups (model_of h.model)
    at_diagonal = g ∙ rw e

    block-stales : (s : Setting) → Settable h s → (c : ℕ) → in_block w diagonal (block_of model w s) c ≡ stales_at (held (head_only h)) s c
    unfolding block_of stales_at stales has_entry
    block-stales (Temperature T) ok c = every_cell (held (head_only h)) w diagonal at_width at_diagonal (width_in h ok e f).0 c
    block-stales (Entry i j v) ok c = rw (← at_width) (go (eqb i j) (model_of h.model) e (has-entry h ok e f refl))
      where
        D : Held
        D = held (head_only h)

        cell : in_block w diagonal (block i 1 j 1) c ≡ (cell_at D c && (eqb (c / w) i && eqb (c % w) j))
        cell = one_cell D w diagonal at_width at_diagonal (width_in h ok e f).0 i (entry-within h ok e f refl).1 c j

        line : in_block w diagonal (block i 1 0 w) c ≡ (cell_at D c && (eqb (c / w) i && true))
        line = one-row D w diagonal at_width at_diagonal (width_in h ok e f).0 i (entry-within h ok e f refl).1 c

        go : (q : Bool) (t : Model) → model ≡ t → by_model t (below i h.n j h.n) (below i h.n j h.n) (below i h.n j h.n) false ≡ true
            → in_block w diagonal (cond q (block i 1 (by_model model 0 0 j j) (by_model model w w 1 1)) (block i 1 j 1)) c
            ≡ (cell_at D c && (eqb (c / w) i && by_model t (eqb (c % w) j || q) (eqb (c % w) j || q) (eqb (c % w) j) false))
        go true Wilson z k = rw (z, or-true (eqb (c % w) j)) line
        go true Uniquac z k = rw (z, or-true (eqb (c % w) j)) line
        go true Nrtl z k = rw z cell
        go true Unifac z k = never (sym k)
        go false Wilson z k = rw (or-false (eqb (c % w) j)) cell
        go false Uniquac z k = rw (or-false (eqb (c % w) j)) cell
        go false Nrtl z k = cell
        go false Unifac z k = never (sym k)
    block-stales (TdEntry i j p) ok c = rw (← at_width) (one_cell (held (head_only h)) w diagonal at_width at_diagonal (width_in h ok e f).0 i (td_within h ok e f refl).1 c j)
    block-stales (Size i which v) ok c = no_cells (held (head_only h)) w diagonal at_width at_diagonal (width_in h ok e f).0 c
    block-stales (Count i j v) ok c = no_cells (held (head_only h)) w diagonal at_width at_diagonal (width_in h ok e f).0 c
    block-stales (Tolerance ε) ok c = no_cells (held (head_only h)) w diagonal at_width at_diagonal (width_in h ok e f).0 c

    pub stale_is : (s : Setting) → Settable h s → (l : List ℕ) {b : Block} {r : List ℕ} → b ≡ block_of model w s → r ≡ written (in_block w diagonal b) (λ c. 0) l
        → r ≡ written (stales_at (held (head_only h)) s) (λ c. 0) l
    stale_is s ok l {b} {r} q t = t ∙ rw q (written_same _ _ (λ c. 0) l (block-stales s ok))

  -- what making a block stale asks for
  pub fits_by_lem : (s : Setting) → Settable h s → {b : Block} {lm : ℕ} → b ≡ block_of model w s → 1024 ≤ lm → BlockFits w b lm
  fits_by_lem s ok q long =
      let v = width_in h ok e f in
      let z = block-fits s ok in
      let square : w * w ≤ 1024 = mul-le-mul v.1 v.1 in
      record { some = v.0; few = v.1; rows = rw q z.0; columns = rw q z.1; marked = omega arith }

-- ---- a setting that passes

pub record SetFits (m : Memory) (h : Head) (s : Setting) : Type 0 where
  pub ok : Settable h s
  pub values : place (head_only h) s + length (numbers s) ≤ length m.values
  pub marks : 1024 ≤ length m.marks

pub set-fits : (m : Memory) (h : Head) (s : Setting) → setting_fault m h s ≡ 0 → SetFits m h s
unfolding setting_fault least_values least_marks
set-fits m h s e =
    let f = first-is (head_fault m h) _ e in
    let p = head_passed m h f.0 in
    record {
      ok = record { range = sym (range-only m h) ∙ in_range_lem m h f.0; case = sym (case-only m h s) ∙ f.1 };
      values = omega (arith, place-only m h s, store_in (data_in m h) s f.1, p.range.values, p.long.values);
      marks = p.long.marks;
    }

pub set-done : (m : Memory) (h : Head) (s : Setting) {a : ℕ} {v : List Float} {k : List ℕ} {g : Head} → setting_fault m h s ≡ 0
    → a ≡ place (head_only h) s → v ≡ sets m.values a (numbers s) → k ≡ written (stales_at (held (head_only h)) s) (λ c. 0) m.marks → g ≡ set_head h s
    → after (memory v m.cells k) g Done ≡ after_setting m h s
unfolding after_setting set_memory
set-done m h s {a} {v} {k} {g} e p q r t =
    rw (eq-eqb (setting_fault m h s) 0 e, t, q, p, place-only m h s)
    (ap (λ (l : List ℕ). after (memory (sets m.values (place (head_only h) s) (numbers s)) m.cells l) (set_head h s) Done)
    (r ∙ written_same _ _ (λ c. 0) m.marks (λ c. sym (stales-only m h s c))))

-- ---- what a declined setting leaves

module _ (m : Memory) (h : Head) (s : Setting) where
  pub set-refused : {k : ℕ} → k ≡ setting_fault m h s → (k ≡ 0 → ⊥) → set_after m k h s ≡ after_setting m h s
  unfolding after_setting
  set-refused {k} e n = rw (ne_eqb k 0 n) (refused m h _ e n)
