-- What a mixture holds: a model's values by the names that document 01, "Mixture", gives them.
use Rattle.std.specs.Prelude.{Bool, ◌&&◌, cond, [], ℕ, eqb, Float}
use Rattle.std.specs.Float.{nan}
use Rattle.arithmetic.specs.Tables.{Table, from}
use Rattle.arithmetic.specs.declared.parameters.TdParam.{TdParam}
use Rattle.models.specs.Unifac.{Groups}
use Rattle.models.specs.Values.{five_at, energies, volumes, rs, qs, taus, alphas, counts_at, group_rs, group_qs, group_as, lists}
use Rattle.models.specs.declared.model.Model.{Model}
use Rattle.models.specs.Model.{by_model, ModelData}
use Rattle.mixture.specs.declared.setting.Setting.{Setting}
use Rattle.mixture.specs.declared.setting.Setting.TheVariants.{Temperature, Entry, TdEntry, Size, Count, Tolerance}

-- a model with n, ng, lists and values, by their names; counts stand in the lists
pub record Held : Type 0 where
  pub model : Model
  pub n : ℕ
  pub ng : ℕ
  pub lists : Groups
  pub entry : Table
  pub td_entry : ℕ → ℕ → TdParam
  pub size : Table

-- ---- the names read off a load's slices; NaN for those that the model doesn't have

-- entry i, j: energy, or α in NRTL
unfoldable pub entries : ModelData → ℕ → ℕ → Float
entries d =
    by_model d.model (energies d.n d.values) (energies d.n d.values) (alphas d.n d.values) (λ i j. nan)

-- td entry i, j: τ, or UNIFAC's a
unfoldable pub td_entries : ModelData → ℕ → ℕ → TdParam
td_entries d =
    by_model d.model (λ i j. five_at [] 0) (λ i j. five_at [] 0) (taus d.n d.values) (group_as d.ng d.values)

-- size i, which: 0 for V, r or R, 1 for q or Q
unfoldable pub sizes : ModelData → ℕ → ℕ → Float
sizes d i which =
    by_model d.model (volumes d.n d.values i) (cond (eqb which 0) (rs d.n d.values i) (qs d.n d.values i))
    nan (cond (eqb which 0) (group_rs d.ng d.values i) (group_qs d.ng d.values i))

abbrev pub held : ModelData → Held
held d =
    record {
      model = d.model;
      n = d.n;
      ng = d.ng;
      lists = lists d.lens d.groups (from (counts_at d.ng) d.values);
      entry = entries d;
      td_entry = td_entries d;
      size = sizes d;
    }

-- ---- the names

-- a name: one of the six cases, and its indices
pub record Name : Type 0 where
  pub case : ℕ
  pub i : ℕ
  pub j : ℕ

abbrev pub name : ℕ → ℕ → ℕ → Name
name c i j = record { case = c; i = i; j = j }

abbrev pub temperature : Name
temperature = name 0 0 0

abbrev pub entry : ℕ → ℕ → Name
entry i j = name 1 i j

abbrev pub td_entry : ℕ → ℕ → Name
td_entry i j = name 2 i j

abbrev pub size : ℕ → ℕ → Name
size i which = name 3 i which

abbrev pub count : ℕ → ℕ → Name
count i j = name 4 i j

abbrev pub tolerance : Name
tolerance = name 5 0 0

abbrev pub same : Name → Name → Bool
same a b = eqb a.case b.case && eqb a.i b.i && eqb a.j b.j

-- what a setting names
unfoldable pub named : Setting → Name
named (Temperature T) = temperature
named (Entry i j v) = entry i j
named (TdEntry i j p) = td_entry i j
named (Size i which v) = size i which
named (Count i j v) = count i j
named (Tolerance ε) = tolerance
