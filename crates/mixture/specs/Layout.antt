-- Where the lent memory keeps what document 01 names: values in the strip's order, cells and marks by full rows.
use Rattle.std.specs.Prelude.{Bool, ◌&&◌, List, [], ◌∷◌, ℕ, ◌+◌, ◌*◌, ◌/◌, ◌%◌, ltb, Float}
use Rattle.models.specs.Values.{counts_at, start}
use Rattle.mixture.specs.declared.head.Head.{Head}
use Rattle.models.specs.Model.{by_model, model_of, ModelData, model_data}
use Rattle.mixture.specs.declared.setting.Setting.{Setting}
use Rattle.mixture.specs.declared.setting.Setting.TheVariants.{Temperature, Entry, TdEntry, Size, Count, Tolerance}
use Rattle.mixture.specs.Holdings.{Held}
use Rattle.mixture.specs.Cells.{width, is_cell}
use Rattle.mixture.specs.Memory.{Memory}

-- what memory and head hold, as a load brings it
abbrev pub data_in : Memory → Head → ModelData
data_in m h = model_data (model_of h.model) h.n h.ng h.lens h.groups m.values

-- ---- values

-- a setting's numbers
abbrev pub numbers : Setting → List Float
numbers (Temperature T) = []
numbers (Entry i j v) = v ∷ []
numbers (TdEntry i j p) = p.a ∷ p.b ∷ p.c ∷ p.d ∷ p.e ∷ []
numbers (Size i which v) = v ∷ []
numbers (Count i j v) = v ∷ []
numbers (Tolerance ε) = []

-- the place that they stand from
unfoldable pub place : ModelData → Setting → ℕ
place d (Temperature T) = 0
place d (Entry i j v) = by_model d.model (i * d.n + j) (i * d.n + j) (d.n * d.n * 5 + (i * d.n + j)) 0
place d (TdEntry i j p) = by_model d.model 0 0 ((i * d.n + j) * 5) (d.ng + d.ng + (i * d.ng + j) * 5)
place d (Size i which v) = by_model d.model (d.n * d.n + i) (d.n * d.n + (which * d.n + i)) 0 (which * d.ng + i)
place d (Count i j v) = by_model d.model 0 0 0 (counts_at d.ng + (start d.lens i + j))
place d (Tolerance ε) = 0

-- ---- cells and marks

-- the place c is that of a cell, in row c / w and column c % w
unfoldable pub cell_at : Held → ℕ → Bool
cell_at d c = ltb c (width d * width d) && is_cell d (c / width d) (c % width d)
