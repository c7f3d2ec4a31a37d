-- Laws that pin what memory and book share (docs/REVIEW.md, "Demand 3"): the names of a model's values, and its cells; and how many
-- cells a setting makes stale.
use Rattle.std.specs.Prelude.{◌≡◌, ◌&&◌, cond, ℕ, ◌+◌, ◌*◌, ◌-◌, ◌<◌, ◌≤◌, eqb, length}
use Rattle.models.specs.Faults.{data_fault}
use Rattle.mixture.specs.declared.setting.Setting.{Setting}
use Rattle.mixture.specs.declared.setting.Setting.TheVariants.{Temperature, Entry, TdEntry, Size, Count, Tolerance}
use Rattle.mixture.specs.Lists.{how_many_pairs}
use Rattle.mixture.specs.Holdings.{Held, held, named}
use Rattle.mixture.specs.Cells.{width, is_cell}
use Rattle.models.specs.Model.{ModelData, by_model}
use Rattle.mixture.specs.Faults.{case_fault}
use Rattle.mixture.specs.Layout.{place, numbers}
use Rattle.mixture.specs.Calls.{stales}

-- ---- values

-- the numbers of a setting that the model takes stand over the place p
pub record Over (d : ModelData) (s : Setting) (p : ℕ) : Type 0 where
  pub takes : case_fault (held d) s ≡ 0
  pub begins : place d s ≤ p
  pub ends : p < place d s + length (numbers s)

-- every place of an accepted load's values is named by the settings of exactly one name: none is out of reach, none is named
-- twice
pub record NamedOnce (d : ModelData) (p : ℕ) : Type 0 where
  pub setting : Setting
  pub over : Over d setting p
  pub once : (s : Setting) → Over d s p → named s ≡ named setting

abbrev pub ValuesNamed : Type 0
ValuesNamed = (d : ModelData) (p : ℕ) → data_fault d ≡ 0 → p < length d.values → NamedOnce d p

-- and no setting that the model takes names a place past them
abbrev pub Within : Type 0
Within = (d : ModelData) (s : Setting) → data_fault d ≡ 0 → case_fault (held d) s ≡ 0 → place d s + length (numbers s) ≤ length d.values

-- ---- cells

-- n·(n - 1) cells, or ng·ng
abbrev pub cells_number : Held → ℕ
cells_number d = by_model d.model (d.n * (d.n - 1)) (d.n * (d.n - 1)) (d.n * (d.n - 1)) (d.ng * d.ng)

abbrev pub CellsNumber : Type 0
CellsNumber = (d : Held) → how_many_pairs (width d) (width d) (is_cell d) ≡ cells_number d

-- T makes all cells stale; an entry its own, an energy a_ii the n - 1 of its row, NRTL's α_ii none; a td entry its own, NRTL's τ_ii
-- none; sizes, counts and the tolerance none
unfoldable pub stales_number : Held → Setting → ℕ
stales_number d (Temperature T) = cells_number d
stales_number d (Entry i j v) = cond (eqb i j) (by_model d.model (d.n - 1) (d.n - 1) 0 0) 1
stales_number d (TdEntry i j p) = cond (eqb i j) (by_model d.model 0 0 0 1) 1
stales_number d (Size i which v) = 0
stales_number d (Count i j v) = 0
stales_number d (Tolerance ε) = 0

-- of a setting that the model takes
abbrev pub StalesNumber : Type 0
StalesNumber = (d : Held) (s : Setting) → case_fault d s ≡ 0
    → how_many_pairs (width d) (width d) (λ i j. is_cell d i j && stales d s i j) ≡ stales_number d s
