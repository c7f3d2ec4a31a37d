-- The calls on lent memory: what each leaves of memory and head (document 01, "Mixture").
use Rattle.std.specs.Prelude.{Bool, true, false, not, ◌&&◌, ◌||◌, cond, List, [], ◌++◌, ℕ, ◌*◌, ◌/◌, ◌%◌, eqb, length, get_or, drop, replicate, Float}
use Rattle.std.proofs.lemmas.List.Edits.{sets}
use Rattle.arithmetic.specs.Floats.{+0}
use Rattle.arithmetic.specs.Tables.{Table, Vector, at, grid}
use Rattle.arithmetic.specs.Parameters.{td_at}
use Rattle.models.specs.declared.answers.Quantity.{Quantity}
use Rattle.models.specs.Limits.{most_components, most_places}
use Rattle.models.specs.Faults.{usual_tolerance}
use Rattle.models.specs.Exponentials.{energy, nonrandomness, group_energy}
use Rattle.models.specs.Wilson.{wilson}
use Rattle.models.specs.Uniquac.{uniquac}
use Rattle.models.specs.Nrtl.{nrtl}
use Rattle.models.specs.Unifac.{unifac}
use Rattle.mixture.specs.declared.head.Head.{Head}
use Rattle.mixture.specs.declared.setting.Setting.{Setting}
use Rattle.mixture.specs.declared.setting.Setting.TheVariants.{Temperature, Entry, TdEntry, Size, Count, Tolerance}
use Rattle.mixture.specs.Answers.{Refused, Done, Value}
use Rattle.mixture.specs.Lists.{written, padded, how_many}
use Rattle.mixture.specs.Holdings.{Held, held}
use Rattle.mixture.specs.Cells.{width}
use Rattle.models.specs.Model.{ModelData, by_model, has_groups, model_number}
use Rattle.mixture.specs.Faults.{memory_fault, load_fault, setting_fault, fractions_fault, query_fault}
use Rattle.mixture.specs.Memory.{Memory, memory, After, after}
use Rattle.mixture.specs.Layout.{data_in, place, numbers, cell_at}

-- ---- what all calls share

-- a declined call leaves memory and head; one that isn't, with the number 0, leaves a
abbrev pub outcome : ℕ → Memory → Head → After → After
outcome k m h a = cond (eqb k 0) a (after m h (Refused k))

-- ---- open

-- a head with a tolerance, T and fractions unset, and 0 in these fields
abbrev pub unset_head : Float → ℕ → ℕ → ℕ → List ℕ → List ℕ → Head
unset_head ε model n ng lens groups =
    record {
      model = model;
      n = n;
      ng = ng;
      lens = lens;
      groups = groups;
      t = +0;
      x = replicate most_components +0;
      has_t = false;
      has_x = false;
      tolerance = ε;
    }

-- with lists as a load brings them, and 0 in the places past them
abbrev pub fresh_head : Float → ℕ → ℕ → ℕ → List ℕ → List ℕ → Head
fresh_head ε model n ng lens groups = unset_head ε model n ng (padded most_components 0 lens) (padded most_places 0 groups)

-- the head without a model
abbrev pub no_head : Head
no_head = fresh_head +0 0 0 0 [] []

-- writes no lent place and leaves no model
unfoldable pub after_open : Memory → Head → After
after_open m h = outcome (memory_fault m) m h (after m no_head Done)

-- ---- load

-- the tolerance is 1e-6
unfoldable pub loaded_head : ModelData → Head
loaded_head d =
    cond (has_groups d.model) (fresh_head usual_tolerance (model_number d.model) d.n d.ng d.lens d.groups)
    (fresh_head usual_tolerance (model_number d.model) d.n 0 [] [])

-- the model's values, and all its cells stale
unfoldable pub loaded_memory : Memory → ModelData → Memory
loaded_memory m d =
    memory (d.values ++ drop (length d.values) m.values) m.cells (written (cell_at (held d)) (λ c. 0) m.marks)

unfoldable pub after_load : Memory → Head → ModelData → After
after_load m h d = outcome (load_fault m d) m h (after (loaded_memory m d) (loaded_head d) Done)

-- ---- setting

-- the setting makes the cell k, l stale: T every cell; an entry or td entry its own, an energy a_ii row i's; sizes, counts and
-- the tolerance none
unfoldable pub stales : Held → Setting → ℕ → ℕ → Bool
stales d (Temperature T) k l = true
stales d (Entry i j v) k l =
    eqb k i && by_model d.model (eqb l j || eqb i j) (eqb l j || eqb i j) (eqb l j) false
stales d (TdEntry i j p) k l = eqb k i && eqb l j
stales d (Size i which v) k l = false
stales d (Count i j v) k l = false
stales d (Tolerance ε) k l = false

-- the place c is that of a cell that the setting makes stale
unfoldable pub stales_at : Held → Setting → ℕ → Bool
stales_at d s c = cell_at d c && stales d s (c / width d) (c % width d)

unfoldable pub set_memory : Memory → ModelData → Setting → Memory
set_memory m d s =
    memory (sets m.values (place d s) (numbers s)) m.cells (written (stales_at (held d) s) (λ c. 0) m.marks)

-- the head with another T, other fractions and another tolerance
abbrev pub head_with : Head → Float → Bool → List Float → Bool → Float → Head
head_with h T has_t x has_x ε =
    record {
      model = h.model;
      n = h.n;
      ng = h.ng;
      lens = h.lens;
      groups = h.groups;
      t = T;
      x = x;
      has_t = has_t;
      has_x = has_x;
      tolerance = ε;
    }

-- T after a setting, and whether it is then set
unfoldable pub t_after : Setting → Float → Float
t_after (Temperature T) u = T
t_after (Entry i j v) u = u
t_after (TdEntry i j p) u = u
t_after (Size i which v) u = u
t_after (Count i j v) u = u
t_after (Tolerance ε) u = u

unfoldable pub has_t_after : Setting → Bool → Bool
has_t_after (Temperature T) b = true
has_t_after (Entry i j v) b = b
has_t_after (TdEntry i j p) b = b
has_t_after (Size i which v) b = b
has_t_after (Count i j v) b = b
has_t_after (Tolerance ε) b = b

-- the tolerance after a setting
unfoldable pub tolerance_after : Setting → Float → Float
tolerance_after (Temperature T) u = u
tolerance_after (Entry i j v) u = u
tolerance_after (TdEntry i j p) u = u
tolerance_after (Size i which v) u = u
tolerance_after (Count i j v) u = u
tolerance_after (Tolerance ε) u = ε

abbrev pub set_head : Head → Setting → Head
set_head h s =
    head_with h (t_after s h.t) (has_t_after s h.has_t) h.x h.has_x (tolerance_after s h.tolerance)

unfoldable pub after_setting : Memory → Head → Setting → After
after_setting m h s = outcome (setting_fault m h s) m h (after (set_memory m (data_in m h) s) (set_head h s) Done)

-- ---- fractions

-- 0 in the places past n
abbrev pub with_fractions : Head → List Float → Head
with_fractions h x = head_with h h.t h.has_t (padded most_components +0 x) true h.tolerance

unfoldable pub after_fractions : Memory → Head → List Float → After
after_fractions m h x = outcome (fractions_fault m h x) m h (after m (with_fractions h x) Done)

-- ---- query

-- E_ij, G_ij or Ψ_ij at T
unfoldable pub exponential : Held → Float → ℕ → ℕ → Float
exponential d T =
    by_model d.model (energy d.entry T) (energy d.entry T) (nonrandomness d.entry (λ i j. td_at (d.td_entry i j) T))
    (group_energy (λ m k. td_at (d.td_entry m k) T) T)

-- the model's value over a table of exponentials
unfoldable pub value_by : Held → Float → Table → Vector → Quantity → Float
value_by d T table x q =
    by_model d.model (wilson d.n (λ i. d.size i 0) table x q)
    (uniquac d.n (λ i. d.size i 0) (λ i. d.size i 1) table x q)
    (nrtl d.n (λ i j. td_at (d.td_entry i j) T) table x q)
    (unifac d.n d.ng d.lists (λ k. d.size k 0) (λ k. d.size k 1) table x q)

-- the place c is that of a stale cell
unfoldable pub stale_at : Memory → Held → ℕ → Bool
stale_at m d c = cell_at d c && not (eqb (get_or m.marks c 0) 1)

-- every stale cell worked out and marked fresh
unfoldable pub worked : Memory → Held → Float → Memory
worked m d T =
    memory m.values (written (stale_at m d) (λ c. exponential d T (c / width d) (c % width d)) m.cells)
    (written (stale_at m d) (λ c. 1) m.marks)

unfoldable pub answered : Memory → Held → Head → Quantity → After
answered m d h q =
    after (worked m d h.t) h
    (Value (value_by d h.t (grid (width d) (worked m d h.t).cells) (at h.x) q)
    (how_many (width d * width d) (stale_at m d)))

unfoldable pub after_query : Memory → Head → Quantity → After
after_query m h q = outcome (query_fault m h q) m h (answered m (held (data_in m h)) h q)
