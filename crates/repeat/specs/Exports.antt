-- The exported call: a mixture opened on zeros, loaded and given fractions, then T set and a query, and in each later turn what the
-- change sets and a query; or the plain call at each temperature. Its result is the last value. Each step is the call's own definition, so
-- `history` of mixture's proofs/History/History holds of it.
use Rattle.std.specs.Prelude.{cond, List, ℕ, zero, suc, ◌+◌, ◌-◌, ◌*◌, ◌/◌, eqb, ltb, length, replicate, Float}
use Rattle.std.specs.Borrow.{Bor}
use denote.Triple.Both.{Both}
use Rattle.arithmetic.specs.Tables.{Vector}
use Rattle.arithmetic.specs.declared.parameters.TdParam.{TdParam}
use Rattle.arithmetic.specs.Bytes.{floats, float_at}
use Rattle.arithmetic.specs.Floats.{+0}
use Rattle.models.specs.declared.answers.Quantity.{Quantity}
use Rattle.models.specs.Answers.{quantity_of}
use Rattle.arithmetic.specs.Refusals as Plain
use Rattle.mixture.specs.declared.head.Head.{Head}
use Rattle.models.specs.declared.model.Model.{Model}
use Rattle.mixture.specs.declared.setting.Setting.{Setting}
use Rattle.mixture.specs.declared.setting.Setting.TheVariants.{Temperature, Entry, TdEntry}
use Rattle.models.specs.Faults.{usual_tolerance}
use Rattle.models.specs.Limits.{most_components, most_values}
use Rattle.models.specs.Model.{ModelData, model_data, by_model, model_of}
use Rattle.mixture.specs.Answers.{value_of}
use Rattle.mixture.specs.Memory.{Memory, memory, least_values, least_cells, least_marks, After}
use Rattle.mixture.specs.Calls.{no_head, after_open, after_load, after_setting, after_fractions, after_query}
use Rattle.models.specs.Plain.{plain_call}

-- the value of a plain call, +0 for a refusal
unfoldable pub plain_value : Plain.Answer Float → Float
plain_value (Plain.Value v) = v
plain_value (Plain.Refused k) = +0

-- a td entry whose only number is a
abbrev pub constant : Float → TdParam
constant v = record { a = v; b = +0; c = +0; d = +0; e = +0 }

-- what a turn sets: T where the change is 2, else entry 0, 1, for UNIFAC the td entry
unfoldable pub setting_of : ℕ → Model → Float → Float → Setting
setting_of change k v T = cond (eqb change 2) (Temperature T) (by_model k (Entry 0 1 v) (Entry 0 1 v) (Entry 0 1 v) (TdEntry 0 1 (constant v)))

-- a query after what a call left
unfoldable pub asked : Quantity → After → After
asked q a = after_query a.memory a.head q

-- a setting and then a query
unfoldable pub set_and_asked : Setting → Quantity → After → After
set_and_asked s q a = asked q (after_setting a.memory a.head s)

-- n queries
unfoldable pub asked_times : ℕ → Quantity → After → After
asked_times zero q a = a
asked_times (suc n) q a = asked q (asked_times n q a)

-- n times a setting and a query, at T 0, T 1, ..
unfoldable pub set_times : ℕ → ℕ → Model → Float → Quantity → Vector → After → After
set_times zero change k v q T a = a
set_times (suc n) change k v q T a = set_and_asked (setting_of change k v (T n)) q (set_times n change k v q T a)

-- the first turn sets T 0; the n - 1 others, at T 1, T 2, .., set what the change names, and nothing where it is 0
unfoldable pub turns : ℕ → ℕ → Model → Float → Quantity → Vector → After → After
turns n change k v q T a =
    let first = set_and_asked (Temperature (T 0)) q a in
    cond (eqb change 0) (asked_times (n - 1) q first) (set_times (n - 1) change k v q (λ j. T (1 + j)) first)

-- opened, loaded, with fractions
unfoldable pub begun : Memory → Head → ModelData → List Float → After
begun m h d x =
    let a = after_open m h in
    let b = after_load a.memory a.head d in
    after_fractions b.memory b.head x

-- the memory that it starts from
unfoldable pub zeros : Memory
zeros = memory (replicate least_values +0) (replicate least_cells +0) (replicate least_marks 0)

-- the last value of the plain call at the usual tolerance, a mixture's after its load
unfoldable pub plain_turns : ℕ → ModelData → List Float → Quantity → Vector → Float
plain_turns zero d x q T = +0
plain_turns (suc n) d x q T = plain_value (plain_call d (T n) usual_tolerance x q)

-- the last value over n temperatures: of the plain call where the change is 3, else of the mixture
unfoldable pub repeated : ℕ → ModelData → List Float → Quantity → ℕ → Float → Vector → Float
repeated n d x q change v T =
    cond (eqb change 3) (plain_turns n d x q T)
    (value_of (turns n change d.model v q T (begun zeros no_head d x)).answer)

-- the same for bytes; +0 for more values or fractions than any model has, or no temperature
unfoldable pub repeated_bytes : ℕ → ℕ → ℕ → List ℕ → List ℕ → List ℕ → List ℕ → ℕ → ℕ → ℕ → Float → List ℕ → Float
repeated_bytes model n ng lens groups values x asked i change v temperatures =
    cond (ltb most_values (length values / 8)) +0
    (cond (ltb most_components (length x / 8)) +0
    (cond (ltb (length temperatures) 8) +0
    (repeated (length temperatures / 8) (model_data (model_of model) n ng lens groups (floats values)) (floats x) (quantity_of asked i) change v
    (λ k. float_at temperatures (8 * k)))))

-- the temperatures in a call's argument, and how many there are
abbrev pub each : {A : Type 0} → Both (Bor (List ℕ)) A → Vector
each temperatures k = float_at temperatures.entry.now (8 * k)

abbrev pub how_many : {A : Type 0} → Both (Bor (List ℕ)) A → ℕ
how_many temperatures = length temperatures.entry.now / 8
