-- What the calls on a mixture decline: document 01, "What each call declines". 0 for nothing. A load's and the fractions' own faults
-- are the models' (`data_fault`, `mix_fault`).
use Rattle.std.specs.Prelude.{Bool, false, ◌&&◌, cond, List, ℕ, leb, ltb, eqb, get_or, Float}
use Rattle.std.specs.Float.Ieee.{lt}
use Rattle.arithmetic.specs.Floats.{+0}
use Rattle.models.specs.Limits.{most_components, most_groups, most_listed}
use Rattle.models.specs.declared.answers.Quantity.{Quantity}
use Rattle.models.specs.Answers.{first}
use Rattle.models.specs.Faults.{tolerance_fault, mix_fault, index_fault, between, all_to, data_fault}
use Rattle.models.specs.Model.{by_model, is_model, ModelData}
use Rattle.models.specs.Values.{start}
use Rattle.mixture.specs.declared.head.Head.{Head}
use Rattle.mixture.specs.declared.setting.Setting.{Setting}
use Rattle.mixture.specs.declared.setting.Setting.TheVariants.{Temperature, Entry, TdEntry, Size, Count, Tolerance}
use Rattle.mixture.specs.Holdings.{Held, held}
use Rattle.mixture.specs.Memory.{Memory, is_short}
use Rattle.mixture.specs.Layout.{data_in}

-- ---- whatever memory a call meets: the cases and indices that a model has

abbrev pub below : ℕ → ℕ → ℕ → ℕ → Bool
below i m j n = ltb i m && ltb j n

unfoldable pub has_entry : Held → ℕ → ℕ → Bool
has_entry d i j = by_model d.model (below i d.n j d.n) (below i d.n j d.n) (below i d.n j d.n) false

unfoldable pub has_td_entry : Held → ℕ → ℕ → Bool
has_td_entry d i j = by_model d.model false false (below i d.n j d.n) (below i d.ng j d.ng)

-- Wilson has only 0
unfoldable pub has_size : Held → ℕ → ℕ → Bool
has_size d i which = by_model d.model (below i d.n which 1) (below i d.n which 2) false (below i d.ng which 2)

unfoldable pub has_count : Held → ℕ → ℕ → Bool
has_count d i j = by_model d.model false false false (below i d.n j (d.lists.length i))

-- a setting: 10, no such case or index for this model; 4, a count < 0 (-0 and NaN pass); 14, a tolerance out of range
unfoldable pub case_fault : Held → Setting → ℕ
case_fault d (Temperature T) = 0
case_fault d (Entry i j v) = cond (has_entry d i j) 0 10
case_fault d (TdEntry i j p) = cond (has_td_entry d i j) 0 10
case_fault d (Size i which v) = cond (has_size d i which) 0 10
case_fault d (Count i j v) = cond (has_count d i j) (cond (lt v +0) 4 0) 10
case_fault d (Tolerance ε) = tolerance_fault ε

-- ---- on lent memory, with a head

-- 1, a lent slice is short
unfoldable pub memory_fault : Memory → ℕ
memory_fault m = cond (is_short m) 1 0

-- an n, ng, list length and group that the model uses are in range
unfoldable pub in_range : ModelData → Bool
in_range d =
    by_model d.model (between 1 most_components d.n) (between 1 most_components d.n) (between 1 most_components d.n)
    (between 1 most_components d.n && between 1 most_groups d.ng && all_to d.n (λ i. leb (get_or d.lens i 0) most_listed)
    && all_to (start d.lens d.n) (λ p. ltb (get_or d.groups p 0) d.ng))

-- from setting to query: 1, a slice is short or the head is out of range; 8, no model, where only the slices count
unfoldable pub head_fault : Memory → Head → ℕ
head_fault m h =
    first (memory_fault m) (cond (eqb h.model 0) 8 (cond (is_model h.model && in_range (data_in m h)) 0 1))

unfoldable pub load_fault : Memory → ModelData → ℕ
load_fault m d = first (memory_fault m) (data_fault d)

unfoldable pub setting_fault : Memory → Head → Setting → ℕ
setting_fault m h s = first (head_fault m h) (case_fault (held (data_in m h)) s)

-- by the tolerance that the head holds, whatever it is
unfoldable pub fractions_fault : Memory → Head → List Float → ℕ
fractions_fault m h x = first (head_fault m h) (mix_fault h.tolerance h.n x)

-- a model, T and fractions are there: 1 and 8; 9, T unset; 9, fractions unset
unfoldable pub ready_fault : Memory → Head → ℕ
ready_fault m h = first (head_fault m h) (first (cond h.has_t 0 9) (cond h.has_x 0 9))

-- 7, i ≥ n
unfoldable pub query_fault : Memory → Head → Quantity → ℕ
query_fault m h q = first (ready_fault m h) (index_fault h.n q)
