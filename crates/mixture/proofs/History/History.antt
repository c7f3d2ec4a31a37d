-- Demand 3. Memory and head keep what the book holds: the values by name, T and fractions, and of every cell whether it
-- was touched since the last answered query and, if not, its exponential. Each call keeps that and answers as the book
-- does, so every list of calls does.
use mathlib.Core.Path.{◌≡◌, refl, sym, ap, ap₂, ◌∙◌, subst}
use mathlib.Core.Bool.{Bool, true, false, not, ◌&&◌, ◌||◌, cond, not-not}
use mathlib.Core.List.{List, [], ◌∷◌}
use mathlib.Core.Logic.{inl, inr}
use mathlib.Core.Option.{Option, none, some}
use Prim.Native.Nat.{ℕ, ◌+◌, ◌*◌, ◌/◌, ◌%◌, ◌-◌, ◌<◌, ◌≤◌}
use native.Mathlib.Nat.{mul-le-mul}
use native.Mathlib.Omega.{arith}
use lib.Dec.{eqb}
use lib.ListN.{length, get_or, drop, replicate, length-append, length-drop, get_or-append}
use lib.Seq.{length-sets}
use lib.Ieee.{Float, nan}
use borrow.Author.Tests.{lt-ltb, eq-eqb, ne_eqb, eqb-true}
use Rattle.arithmetic.specs.Floats.{+0}
use Rattle.arithmetic.specs.Tables.{at, grid}
use Rattle.arithmetic.proofs.Tests.{either}
use Rattle.arithmetic.proofs.TableLaws.{cell-lt, cell_row, cell-column}
use Rattle.models.specs.declared.answers.Quantity.{Quantity}
use Rattle.models.specs.Faults.{usual_tolerance, index_fault, data_fault, mix_fault}
use Rattle.models.specs.Values.{start, lists}
use Rattle.models.proofs.GroupListLaws.{list_place}
use Rattle.mixture.specs.declared.head.Head.{Head}
use Rattle.models.specs.declared.model.Model.{Model}
use Rattle.models.specs.declared.model.Model.TheVariants.{Unifac}
use Rattle.mixture.specs.declared.setting.Setting.{Setting}
use Rattle.mixture.specs.declared.setting.Setting.TheVariants.{Temperature, Entry, TdEntry, Size, Count, Tolerance}
use Rattle.mixture.specs.Answers.{Answer, Refused, Done, Value, number_of, unless}
use Rattle.mixture.specs.Lists.{written, padded, any_of, how_many}
use Rattle.mixture.specs.Holdings.{Held, held}
use Rattle.mixture.specs.Cells.{width, is_cell, inputs}
use Rattle.models.specs.Model.{ModelData, is_model, size_of}
use Rattle.mixture.specs.Faults.{case_fault, memory_fault, in_range, head_fault, load_fault, setting_fault, fractions_fault, ready_fault, query_fault}
use Rattle.mixture.specs.Memory.{Memory, least_values, least_cells, least_marks, After}
use Rattle.mixture.specs.Layout.{data_in, place, numbers, cell_at}
use Rattle.mixture.specs.Calls.{outcome, no_head, after_open, loaded_head, loaded_memory, after_load, stales, stales_at, set_memory, t_after, has_t_after, tolerance_after, set_head, after_setting, with_fractions, after_fractions, exponential, value_by, stale_at, worked, answered, after_query}
use Rattle.mixture.specs.Book.{Mix, mix, Call, Open, Load, Set, Fractions, Query, Book, book, empty, set_in, set_t, set_tolerance, set_model, book_after, gives, touched, touched_cells, plain, having, setting_answer, query_answer, book_answer, is_query, accepted, since, book_answers}
use Rattle.mixture.specs.History.{after_call, answers, History}
use Rattle.mixture.proofs.ListLaws.{never, or-none, length-written, get_or-written, how_many-rows, how_many_pairs-same}
use Rattle.mixture.proofs.PlaceLaws.{both, nought}
use Rattle.mixture.proofs.History.AgreeLaws.{Alike, Agrees, case_fault-same, width_same, is_cell-same, alike_refl, agrees_trans, set-alike, set_agrees, store_agrees}
use Rattle.mixture.proofs.History.RangeLaws.{Long, short_no, long-is, Sound, sound, bounds}
use Rattle.mixture.proofs.CallLaws.{mix-length}
use Rattle.mixture.proofs.History.LoadLaws.{left-in_range, left-number, left_unset, left-agrees}
use Rattle.mixture.proofs.History.CellLaws.{exponential-same, exponential-still, set_t-still, stales-inputs, load_inputs, fractions-inputs, value_by-same, plain-is}

-- ---- what memory and head keep of a book

abbrev KeptT : Option Float → Head → Type 0
KeptT none h = h.has_t ≡ false
KeptT (some T) h = (h.has_t ≡ true) × (h.t ≡ T)

abbrev KeptX : Option Mix → ℕ → Head → Type 0
KeptX none n h = h.has_x ≡ false
KeptX (some x) n h = (h.has_x ≡ true) × (length x.fractions ≡ n) × (h.x ≡ padded 12 +0 x.fractions)

record KeptModel (m : Memory) (h : Head) (d : Held) (T : Option Float) (x : Option Mix) (ε : Float) (past : List Call) : Type 0 where
  number : h.model ≡ 0 → ⊥
  range : (is_model h.model && in_range (data_in m h)) ≡ true
  agrees : Agrees (held (data_in m h)) d
  kept_t : KeptT T h
  kept_x : KeptX x d.n h
  tolerance : h.tolerance ≡ ε
  marks : (i j : ℕ) → i < width d → j < width d → is_cell d i j ≡ true
      → eqb (get_or m.marks (i * width d + j) 0) 1 ≡ not (touched d.model (since past) i j)
  cells : (i j : ℕ) → i < width d → j < width d → is_cell d i j ≡ true → touched d.model (since past) i j ≡ false
      → (U : Float) → T ≡ some U → grid (width d) m.cells i j ≡ exponential d U i j

abbrev Kept : Memory → Head → Option Held → Option Float → Option Mix → Float → List Call → Type 0
Kept m h none T x ε past = h.model ≡ 0
Kept m h (some d) T x ε past = KeptModel m h d T x ε past

record Keeps (m : Memory) (h : Head) (b : Book) (past : List Call) : Type 0 where
  long : Long m
  kept : Kept m h b.model b.T b.x b.tolerance past

-- touched by one call more that is no query, or before
touched-more : (k : Model) (past : List Call) (c : Call) → is_query c ≡ false → (i j : ℕ)
    → touched k (since (c ∷ past)) i j ≡ (any_of (inputs k i j) (gives c) || touched k (since past) i j)
unfolding touched any_of since
touched-more k past c n i j = rw n

-- of the accepted calls only what they touch since the last answered query counts
kept-past : (m : Memory) (h : Head) (o : Option Held) (T : Option Float) (x : Option Mix) (ε : Float) (past past' : List Call)
    → ((k : Model) (i j : ℕ) → touched k (since past) i j ≡ touched k (since past') i j) → Kept m h o T x ε past → Kept m h o T x ε past'
kept-past m h none T x ε past past' e k = k
kept-past m h (some d) T x ε past past' e k =
    record {
      number = k.number;
      range = k.range;
      agrees = k.agrees;
      kept_t = k.kept_t;
      kept_x = k.kept_x;
      tolerance = k.tolerance;
      marks = λ i j hi hj c. rw (← (e d.model i j)) (k.marks i j hi hj c);
      cells = λ i j hi hj c t. k.cells i j hi hj c (e d.model i j ∙ t);
    }

keeps_past : (m : Memory) (h : Head) (b : Book) (past past' : List Call) → ((k : Model) (i j : ℕ) → touched k (since past) i j ≡ touched k (since past') i j)
    → Keeps m h b past → Keeps m h b past'
keeps_past m h b past past' e k = record { long = k.long; kept = kept-past m h b.model b.T b.x b.tolerance past past' e k.kept }

-- ---- one call

-- the answer is the book's, and memory and head keep the book that the call leaves
record Step (a : After) (b : Book) (past : List Call) (c : Call) : Type 0 where
  answer : a.answer ≡ book_answer b past c
  done : accepted b past c ≡ true → Keeps a.memory a.head (book_after b c) (c ∷ past)
  refused : accepted b past c ≡ false → Keeps a.memory a.head b past

-- by the number of the refusal
step_by : (fault k : ℕ) (m : Memory) (h : Head) (a : After) (v : Answer) (b : Book) (past : List Call) (c : Call)
    → Keeps m h b past → fault ≡ k → book_answer b past c ≡ unless k v → number_of v ≡ 0
    → (k ≡ 0 → (a.answer ≡ v) × Keeps a.memory a.head (book_after b c) (c ∷ past))
    → Step (outcome fault m h a) b past c
unfolding number_of
step_by fault k m h a v b past c kept e s z f =
    elim (either (eqb k 0)) [
      | inl t ↦
          let g = f (eqb-true k 0 t) in
          rw (e, t)
          (record {
            answer = g.0 ∙ sym (s ∙ rw t);
            done = λ _. g.1;
            refused = λ q. never (sym (rw (s, t, z)) ∙ q);
          })
      | inr t ↦
          rw (e, t)
          (record {
            answer = sym (s ∙ rw t);
            done = λ q. never (sym q ∙ rw (s, t) t);
            refused = λ _. kept;
          })
    ]

step-declined : (fault k : ℕ) (m : Memory) (h : Head) (a : After) (b : Book) (past : List Call) (c : Call)
    → Keeps m h b past → fault ≡ k → book_answer b past c ≡ Refused k → (k ≡ 0 → ⊥) → Step (outcome fault m h a) b past c
unfolding number_of
step-declined fault k m h a b past c kept e s n = step_by fault k m h a Done b past c kept e (s ∙ rw (ne_eqb k 0 n)) refl (λ z. absurd (n z))

-- ---- the faults of memory and head

head-none : (m : Memory) (h : Head) → Long m → h.model ≡ 0 → head_fault m h ≡ 8
unfolding head_fault
head-none m h l e = rw (short_no m l, eq-eqb h.model 0 e)

head_fine : (m : Memory) (h : Head) → Long m → (h.model ≡ 0 → ⊥) → (is_model h.model && in_range (data_in m h)) ≡ true → head_fault m h ≡ 0
unfolding head_fault
head_fine m h l n r = rw (short_no m l, ne_eqb h.model 0 n, r)

kept-range : (m : Memory) (h : Head) {d : Held} {T : Option Float} {x : Option Mix} {ε : Float} {past : List Call} → KeptModel m h d T x ε past → in_range (data_in m h) ≡ true
kept-range m h k = (both (is_model h.model) (in_range (data_in m h)) k.range).1

-- ---- open

step_open : (m : Memory) (h : Head) (b : Book) (past : List Call) → Keeps m h b past → Step (after_open m h) b past Open
unfolding after_open book_answer book_after empty number_of
step_open m h b past k =
    step_by (memory_fault m) 0 m h _ Done b past Open k (short_no m k.long) refl refl
    (λ _. (refl, record { long = k.long; kept = refl }))

-- ---- cells at their places

-- the place of i, j is that of a cell where i, j is one
cell_at-is : (c d : Held) → Alike c d → (i j : ℕ) → i < width d → j < width d → cell_at c (i * width d + j) ≡ is_cell d i j
unfolding cell_at
cell_at-is c d a i j hi hj =
    rw (width_same c d a, lt-ltb _ _ (cell-lt (width d) (width d) i j hi hj), cell_row (width d) i j hj, cell-column (width d) i j hj) (is_cell-same c d a i j)

-- the cells of a head in range have room
room : (e : ModelData) (d : Held) → in_range e ≡ true → Alike (held e) d → width d * width d ≤ 1024
room e d r a = let w = rw (width_same (held e) d a) at (bounds e r).wide.1 in mul-le-mul w w

mark_room : (marks : List ℕ) (w : ℕ) → least_marks ≤ length marks → w * w ≤ 1024 → (i j : ℕ) → i < w → j < w → i * w + j < length marks
unfolding least_marks
mark_room marks w l r i j hi hj = omega (arith, cell-lt w w i j hi hj)

-- a mark after those that pass were made 0
stale_mark : (p : ℕ → Bool) (marks : List ℕ) (c : ℕ) → c < length marks → p c ≡ true → get_or (written p (λ c. 0) marks) c 0 ≡ 0
stale_mark p marks c h t = get_or-written p (λ c. 0) marks c 0 h ∙ rw t

-- ---- load

load_kept : (m : Memory) (d : ModelData) (past : List Call) → Long m → Sound d
    → KeptModel (loaded_memory m d) (loaded_head d) (held d) none none usual_tolerance (Load d ∷ past)
unfolding touched any_of loaded_memory since is_query
load_kept m d past l s =
    let k = d.model in
    let range : in_range (data_in (loaded_memory m d) (loaded_head d)) ≡ true = left-in_range m d k s in
    let agrees = left-agrees m d k s in
    let number = left-number m d k in
    let unset = left_unset m d k in
    record {
      number = number.0;
      range = rw number.1 range;
      agrees = agrees;
      kept_t = unset.0;
      kept_x = unset.1;
      tolerance = unset.2;
      marks = λ i j hi hj c.
          rw (
            load_inputs k d i j,
            stale_mark (cell_at (held d)) m.marks (i * width (held d) + j) (mark_room m.marks (width (held d)) l.marks (room _ (held d) range agrees.alike) i j hi hj)
                (cell_at-is (held d) (held d) (alike_refl (held d)) i j hi hj ∙ c),
          );
      cells = λ i j hi hj c t. never (sym (rw (load_inputs k d i j)) ∙ t);
    }

load_long : (m : Memory) (d : ModelData) → Long m → Long (loaded_memory m d)
unfolding loaded_memory
load_long m d l =
    record {
      values = rw (length-append d.values (drop (length d.values) m.values), length-drop (length d.values) m.values) (omega (arith, l.values));
      cells = l.cells;
      marks = rw (length-written (cell_at (held d)) (λ c. 0) m.marks) l.marks;
    }

step_load : (m : Memory) (h : Head) (b : Book) (past : List Call) (d : ModelData) → Keeps m h b past → Step (after_load m h d) b past (Load d)
unfolding after_load load_fault book_answer book_after number_of
step_load m h b past d k =
    step_by (load_fault m d) (data_fault d) m h _ Done b past (Load d) k (rw (short_no m k.long)) refl refl
    (λ z. (refl, record { long = load_long m d k.long; kept = load_kept m d past k.long (sound d z) }))

-- ---- setting

set-kept_t : (h : Head) (s : Setting) (T : Option Float) → KeptT T h → KeptT (set_t s T) (set_head h s)
unfolding t_after has_t_after tolerance_after set_t
set-kept_t h (Temperature U) T k = (refl, refl)
set-kept_t h (Entry i j v) T k = k
set-kept_t h (TdEntry i j p) T k = k
set-kept_t h (Size i w v) T k = k
set-kept_t h (Count i j v) T k = k
set-kept_t h (Tolerance ε) none k = k
set-kept_t h (Tolerance ε) (some T) k = k

set-tolerance : (h : Head) (s : Setting) (ε : Float) → h.tolerance ≡ ε → (set_head h s).tolerance ≡ set_tolerance s ε
unfolding tolerance_after set_tolerance
set-tolerance h (Temperature T) ε e = e
set-tolerance h (Entry i j v) ε e = e
set-tolerance h (TdEntry i j p) ε e = e
set-tolerance h (Size i w v) ε e = e
set-tolerance h (Count i j v) ε e = e
set-tolerance h (Tolerance δ) ε e = refl

set-kept_x : (h : Head) (s : Setting) (x : Option Mix) (n : ℕ) → KeptX x n h → KeptX x n (set_head h s)
set-kept_x h s none n k = k
set-kept_x h s (some x) n k = k

mark_step : (t u : Bool) (x y : ℕ) → y ≡ cond t 0 x → eqb x 1 ≡ not u → eqb y 1 ≡ not (t || u)
mark_step true u x y e h = rw e
mark_step false u x y e h = rw e h

stales-same : (c d : Held) → Alike c d → (s : Setting) (i j : ℕ) → stales c s i j ≡ stales d s i j
unfolding stales
stales-same c d a (Temperature T) i j = refl
stales-same c d a (Entry r q v) i j = rw a.model
stales-same c d a (TdEntry r q p) i j = refl
stales-same c d a (Size r w v) i j = refl
stales-same c d a (Count r q v) i j = refl
stales-same c d a (Tolerance ε) i j = refl

module _ (m : Memory) (h : Head) (d : Held) (T : Option Float) (x : Option Mix) (ε : Float) (past : List Call) (l : Long m) (k : KeptModel m h d T x ε past) where
  abbrev e : ModelData
  e = data_in m h

  stales_at-is : (s : Setting) (i j : ℕ) → i < width d → j < width d → is_cell d i j ≡ true → stales_at (held e) s (i * width d + j) ≡ stales d s i j
  unfolding stales_at
  stales_at-is s i j hi hj c =
      rw (cell_at-is (held e) d k.agrees.alike i j hi hj, c, width_same (held e) d k.agrees.alike, cell_row (width d) i j hj, cell-column (width d) i j hj)
      (stales-same (held e) d k.agrees.alike s i j)

  set-range : (s : Setting) → (is_model (set_head h s).model && in_range (data_in (set_memory m e s) (set_head h s))) ≡ true
  unfolding in_range
  set-range s = k.range

  values-room : size_of e ≤ length m.values
  unfolding least_values
  values-room = omega (arith, (bounds e (kept-range m h k)).values, l.values)

  set_agree : (s : Setting) → case_fault d s ≡ 0 → Agrees (held (data_in (set_memory m e s) (set_head h s))) (set_in s d)
  unfolding set_memory
  set_agree s f = agrees_trans (store_agrees e s (case_fault-same (held e) d k.agrees.alike s ∙ f) values-room) (set_agrees (held e) d k.agrees s)

  set-marks : (s : Setting) → case_fault d s ≡ 0 → (i j : ℕ) → i < width d → j < width d → is_cell d i j ≡ true
      → eqb (get_or (set_memory m e s).marks (i * width d + j) 0) 1 ≡ not (touched d.model (since (Set s ∷ past)) i j)
  unfolding set_memory is_query
  set-marks s f i j hi hj c =
      rw (touched-more d.model past (Set s) refl i j, ← (stales-inputs d s i j f))
      (mark_step (stales d s i j) (touched d.model (since past) i j) (get_or m.marks (i * width d + j) 0) _
      (get_or-written (stales_at (held e) s) (λ c. 0) m.marks (i * width d + j) 0 (mark_room m.marks (width d) l.marks (room e d (kept-range m h k) k.agrees.alike) i j hi hj)
      ∙ rw (stales_at-is s i j hi hj c))
      (k.marks i j hi hj c))

  set-cells : (s : Setting) → case_fault d s ≡ 0 → (i j : ℕ) → i < width d → j < width d → is_cell d i j ≡ true
      → touched d.model (since (Set s ∷ past)) i j ≡ false → (U : Float) → set_t s T ≡ some U → grid (width d) (set_memory m e s).cells i j ≡ exponential (set_in s d) U i j
  unfolding set_memory is_query
  set-cells s f i j hi hj c t U p =
      let b = or-none (stales d s i j) (touched d.model (since past) i j) (ap (λ (z : Bool). z || touched d.model (since past) i j) (stales-inputs d s i j f) ∙ sym (touched-more d.model past (Set s) refl i j) ∙ t) in
      k.cells i j hi hj c b.1 U (sym (set_t-still d s i j T b.0) ∙ p) ∙ sym (exponential-still d s U i j b.0)

  set-kept : (s : Setting) → case_fault d s ≡ 0 → KeptModel (set_memory m e s) (set_head h s) (set_in s d) (set_t s T) x (set_tolerance s ε) (Set s ∷ past)
  set-kept s f =
      let a = set-alike s d in
      let w : width d ≡ width (set_in s d) = width_same d (set_in s d) a in
      record {
        number = k.number;
        range = set-range s;
        agrees = set_agree s f;
        kept_t = set-kept_t h s T k.kept_t;
        kept_x = subst (λ (n : ℕ). KeptX x n (set_head h s)) a.n (set-kept_x h s x d.n k.kept_x);
        tolerance = set-tolerance h s ε k.tolerance;
        marks = λ i j hi hj c. rw (← w, ← a.model) (set-marks s f i j (rw w hi) (rw w hj) (is_cell-same d (set_in s d) a i j ∙ c));
        cells = λ i j hi hj c t U p. rw (← w) (set-cells s f i j (rw w hi) (rw w hj) (is_cell-same d (set_in s d) a i j ∙ c) (rw a.model t) U p);
      }

set_long : (m : Memory) (e : ModelData) (s : Setting) → Long m → Long (set_memory m e s)
unfolding set_memory
set_long m e s l =
    record {
      values = rw (length-sets m.values (place e s) (numbers s)) l.values;
      cells = l.cells;
      marks = rw (length-written _ (λ c. 0) m.marks) l.marks;
    }

step_set : (m : Memory) (h : Head) (o : Option Held) (T : Option Float) (x : Option Mix) (ε : Float) (past : List Call) (s : Setting)
    → Keeps m h (book o T x ε) past → Step (after_setting m h s) (book o T x ε) past (Set s)
unfolding after_setting setting_fault book_answer setting_answer having book_after set_model number_of
step_set m h none T x ε past s k =
    step-declined (setting_fault m h s) 8 m h _ (book none T x ε) past (Set s) k (rw (head-none m h k.long k.kept)) refl (nought 7)
step_set m h (some d) T x ε past s k =
    step_by (setting_fault m h s) (case_fault d s) m h _ Done (book (some d) T x ε) past (Set s) k
    (rw (head_fine m h k.long k.kept.number k.kept.range) (case_fault-same (held (data_in m h)) d k.kept.agrees.alike s)) refl refl
    (λ z. (refl, record { long = set_long m (data_in m h) s k.long; kept = set-kept m h d T x ε past k.long k.kept s z }))

-- ---- fractions

fractions-kept_t : (h : Head) (T : Option Float) (x : List Float) → KeptT T h → KeptT T (with_fractions h x)
fractions-kept_t h none x k = k
fractions-kept_t h (some T) x k = k

fractions-kept : (m : Memory) (h : Head) (d : Held) (T : Option Float) (o : Option Mix) (ε : Float) (past : List Call) (x : List Float) → length x ≡ d.n
    → KeptModel m h d T o ε past → KeptModel m (with_fractions h x) d T (some (mix x ε)) ε past
fractions-kept m h d T o ε past x n k =
    record {
      number = k.number;
      range = k.range;
      agrees = k.agrees;
      kept_t = fractions-kept_t h T x k.kept_t;
      kept_x = (refl, n, refl);
      tolerance = k.tolerance;
      marks = k.marks;
      cells = k.cells;
    }

-- fractions touch no cell
fractions-past : (x : List Float) (past : List Call) (k : Model) (i j : ℕ) → touched k (since past) i j ≡ touched k (since (Fractions x ∷ past)) i j
unfolding is_query
fractions-past x past k i j = sym (touched-more k past (Fractions x) refl i j ∙ rw (← (fractions-inputs k x i j)))

step-fractions : (m : Memory) (h : Head) (o : Option Held) (T : Option Float) (u : Option Mix) (ε : Float) (past : List Call) (x : List Float)
    → Keeps m h (book o T u ε) past → Step (after_fractions m h x) (book o T u ε) past (Fractions x)
unfolding after_fractions fractions_fault book_answer having book_after number_of
step-fractions m h none T u ε past x k =
    step-declined (fractions_fault m h x) 8 m h _ (book none T u ε) past (Fractions x) k (rw (head-none m h k.long k.kept)) refl (nought 7)
step-fractions m h (some d) T u ε past x k =
    step_by (fractions_fault m h x) (mix_fault ε d.n x) m h _ Done (book (some d) T u ε) past (Fractions x) k
    (rw (head_fine m h k.long k.kept.number k.kept.range) (ap₂ (λ (ε : Float) (n : ℕ). mix_fault ε n x) k.kept.tolerance k.kept.agrees.alike.n)) refl refl
    (λ z. (
      refl,
      keeps_past m (with_fractions h x) (book (some d) T (some (mix x ε)) ε) past (Fractions x ∷ past) (fractions-past x past)
          (record { long = k.long; kept = fractions-kept m h d T u ε past x (mix-length ε d.n x z) k.kept }),
    ))

-- ---- query

some_is : (T U : Float) → ◌≡◌ {A = Option Float} (some T) (some U) → T ≡ U
some_is T U e = cc

module _ (m : Memory) (h : Head) (d : Held) (T : Float) (x : Mix) (ε : Float) (past : List Call) (l : Long m) (k : KeptModel m h d (some T) (some x) ε past) where
  abbrev c : Held
  c = held (data_in m h)

  same : width c ≡ width d
  same = width_same c d k.agrees.alike

  small : width d * width d ≤ 1024
  small = room (data_in m h) d (kept-range m h k) k.agrees.alike

  -- a place is stale where it is that of a touched cell
  stale_is : (i j : ℕ) → i < width d → j < width d → stale_at m c (i * width d + j) ≡ (is_cell d i j && touched d.model (since past) i j)
  unfolding stale_at
  stale_is i j hi hj =
      rw (cell_at-is c d k.agrees.alike i j hi hj)
      (elim (either (is_cell d i j)) [
        | inl t ↦ rw (t, k.marks i j hi hj t) (not-not (touched d.model (since past) i j))
        | inr t ↦ rw t
      ])

  -- after the query every cell is marked fresh, and is its exponential
  fresh : (i j : ℕ) → i < width d → j < width d → is_cell d i j ≡ true → eqb (get_or (worked m c h.t).marks (i * width d + j) 0) 1 ≡ true
  unfolding worked
  fresh i j hi hj t =
      rw (get_or-written (stale_at m c) (λ c. 1) m.marks (i * width d + j) 0 (mark_room m.marks (width d) l.marks small i j hi hj), stale_is i j hi hj, t)
      (elim (either (touched d.model (since past) i j)) [
        | inl u ↦ rw u
        | inr u ↦ rw u (k.marks i j hi hj t ∙ rw u)
      ])

  right : (i j : ℕ) → i < width d → j < width d → is_cell d i j ≡ true → grid (width d) (worked m c h.t).cells i j ≡ exponential d T i j
  unfolding worked least_cells
  right i j hi hj t =
      rw (
        get_or-written (stale_at m c) (λ p. exponential c h.t (p / width c) (p % width c)) m.cells (i * width d + j) nan (omega (arith, cell-lt (width d) (width d) i j hi hj, l.cells, small)),
        stale_is i j hi hj,
        t,
      )
      (elim (either (touched d.model (since past) i j)) [
        | inl u ↦ rw (u, same, cell_row (width d) i j hj, cell-column (width d) i j hj, k.kept_t.1) (exponential-same c d k.agrees T i j hi hj)
        | inr u ↦ rw u (k.cells i j hi hj t u T refl)
      ])

  known : d.model ≡ Unifac → (i p : ℕ) → i < d.n → p < d.lists.length i → d.lists.group i p < d.ng
  unfolding lists
  known e i p hi hp =
      let g = k.agrees.alike.groups e in
      subst (λ (z : ℕ). z < d.ng) (g.group i p hi hp)
      (subst (λ (z : ℕ). c.lists.group i p < z) g.ng
      (((bounds (data_in m h) (kept-range m h k)).lists (k.agrees.alike.model ∙ e)).below (start h.lens i + p)
      (list_place h.lens i h.n p (rw k.agrees.alike.n hi) (rw (g.length i hi) hp))))

  fraction : (i : ℕ) → i < d.n → at h.x i ≡ at x.fractions i
  fraction i b = rw k.kept_x.2 (get_or-append x.fractions (replicate (12 - length x.fractions) +0) nan i (rw k.kept_x.1 b))

  value : (q : Quantity) → index_fault d.n q ≡ 0 → value_by c h.t (grid (width c) (worked m c h.t).cells) (at h.x) q ≡ plain d T x.fractions q
  value q z =
      value_by-same c d k.agrees h.t (grid (width c) (worked m c h.t).cells) (exponential d T) (at h.x) (at x.fractions)
      (λ i j hi hj t. rw same (right i j hi hj t)) fraction known q z
      ∙ rw k.kept_t.1 (plain-is d T x.fractions q)

  count : how_many (width c * width c) (stale_at m c) ≡ touched_cells d (since past)
  unfolding touched_cells
  count = rw same (how_many-rows (width d) (width d) (stale_at m c) ∙ how_many_pairs-same (width d) (width d) _ _ stale_is)

  query_kept : (q : Quantity) → KeptModel (worked m c h.t) h d (some T) (some x) ε (Query q ∷ past)
  unfolding worked touched any_of since is_query
  query_kept q =
      record {
        number = k.number;
        range = k.range;
        agrees = k.agrees;
        kept_t = k.kept_t;
        kept_x = k.kept_x;
        tolerance = k.tolerance;
        marks = fresh;
        cells = λ i j hi hj t u U e. right i j hi hj t ∙ ap (λ (t : Float). exponential d t i j) (some_is T U e);
      }

work_long : (m : Memory) (h : Head) (d : Held) → Long m → Long (worked m (held (data_in m h)) h.t)
unfolding worked
work_long m h d l =
    record {
      values = l.values;
      cells = rw (length-written _ _ m.cells) l.cells;
      marks = rw (length-written _ _ m.marks) l.marks;
    }

step_query : (m : Memory) (h : Head) (o : Option Held) (T : Option Float) (x : Option Mix) (ε : Float) (past : List Call) (q : Quantity)
    → Keeps m h (book o T x ε) past → Step (after_query m h q) (book o T x ε) past (Query q)
unfolding after_query query_fault ready_fault answered book_answer query_answer having book_after number_of
step_query m h none T x ε past q k =
    step-declined (query_fault m h q) 8 m h _ (book none T x ε) past (Query q) k (rw (head-none m h k.long k.kept)) refl (nought 7)
step_query m h (some d) none x ε past q k =
    step-declined (query_fault m h q) 9 m h _ (book (some d) none x ε) past (Query q) k (rw (head_fine m h k.long k.kept.number k.kept.range, k.kept.kept_t)) refl (nought 8)
step_query m h (some d) (some T) none ε past q k =
    step-declined (query_fault m h q) 9 m h _ (book (some d) (some T) none ε) past (Query q) k
    (rw (head_fine m h k.long k.kept.number k.kept.range, k.kept.kept_t.0, k.kept.kept_x)) refl (nought 8)
step_query m h (some d) (some T) (some x) ε past q k =
    step_by (query_fault m h q) (index_fault d.n q) m h _ (Value (plain d T x.fractions q) (touched_cells d (since past)))
    (book (some d) (some T) (some x) ε) past (Query q) k
    (rw (head_fine m h k.long k.kept.number k.kept.range, k.kept.kept_t.0, k.kept.kept_x.0) (ap (λ (n : ℕ). index_fault n q) k.kept.agrees.alike.n)) refl refl
    (λ z. (
      ap₂ Value (value m h d T x ε past k.long k.kept q z) (count m h d T x ε past k.long k.kept),
      record { long = work_long m h d k.long; kept = query_kept m h d T x ε past k.long k.kept q },
    ))

-- ---- every list

step : (m : Memory) (h : Head) (b : Book) (past : List Call) (c : Call) → Keeps m h b past → Step (after_call m h c) b past c
unfolding after_call
step m h b past Open k = step_open m h b past k
step m h b past (Load d) k = step_load m h b past d k
step m h b past (Set s) k = step_set m h b.model b.T b.x b.tolerance past s k
step m h b past (Fractions x) k = step-fractions m h b.model b.T b.x b.tolerance past x k
step m h b past (Query q) k = step_query m h b.model b.T b.x b.tolerance past q k

follows : (cs : List Call) (m : Memory) (h : Head) (b : Book) (past : List Call) → Keeps m h b past → answers m h cs ≡ book_answers b past cs
unfolding answers book_answers
follows [] m h b past k = refl
follows (c ∷ cs) m h b past k =
    let s = step m h b past c k in
    rw s.answer
    (ap (λ (z : List Answer). book_answer b past c ∷ z)
    (elim (either (accepted b past c)) [
      | inl t ↦ rw t (follows cs _ _ (book_after b c) (c ∷ past) (s.done t))
      | inr t ↦ rw t (follows cs _ _ b past (s.refused t))
    ]))

pub history : History
unfolding answers after_call after_open empty
history m h cs s =
    rw (short_no m (long-is m s))
    (ap (λ (z : List Answer). Done ∷ z) (follows cs m no_head empty [] (record { long = long-is m s; kept = refl })))
