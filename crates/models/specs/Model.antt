-- The four models, and what goes by them.
use Rattle.std.specs.Prelude.{◌≡◌, Result, MatchResult, Bool, true, false, ◌&&◌, cond, List, ℕ, eqb, leb, Float}
use Rattle.models.specs.declared.data.Data.{Data}
use Rattle.models.specs.declared.model.Model.{Model}
use Rattle.models.specs.declared.model.UnknownModel.{UnknownModel}
use Rattle.models.specs.declared.model.Model.TheVariants.{Wilson, Uniquac, Nrtl, Unifac}
use Rattle.models.specs.Values.{wilson_size, uniquac_size, nrtl_size, start, unifac_size}

-- one of four, by the model
abbrev pub by_model : {A : Type 0} → Model → A → A → A → A → A
by_model Wilson a b c d = a
by_model Uniquac a b c d = b
by_model Nrtl a b c d = c
by_model Unifac a b c d = d

-- the width of its table of exponentials: a row for each component, or for each of UNIFAC's groups
abbrev pub table_width : Model → ℕ → ℕ → ℕ
table_width m n ng = by_model m n n n ng

-- it has groups, and Ψ on the diagonal of its table too: UNIFAC
abbrev pub has_groups : Model → Bool
has_groups m = by_model m false false false true

-- the model of a number from 1 to 4, a head's or a kind's
unfoldable pub model_of : ℕ → Model
model_of k = cond (eqb k 1) Wilson (cond (eqb k 2) Uniquac (cond (eqb k 3) Nrtl Unifac))

-- there is such a model
abbrev pub is_model : ℕ → Bool
is_model k = leb 1 k && leb k 4

-- what a number gives: its model, or that there is none
abbrev pub Numbered : ℕ → Result Model UnknownModel → Type 0
Numbered k r = MatchResult r (λ m. (is_model k ≡ true) × (m ≡ model_of k)) (λ e. (is_model k ≡ false) × (e.0 ≡ k))

-- and back: the number of each
abbrev pub model_number : Model → ℕ
model_number m = by_model m 1 2 3 4

-- what a load brings: values in the strip's order, groups list after list
pub record ModelData : Type 0 where
  pub model : Model
  pub n : ℕ
  pub ng : ℕ
  pub lens : List ℕ
  pub groups : List ℕ
  pub values : List Float

abbrev pub model_data : Model → ℕ → ℕ → List ℕ → List ℕ → List Float → ModelData
model_data m n ng lens groups values = record { model = m; n = n; ng = ng; lens = lens; groups = groups; values = values }

-- those that a call is given
abbrev pub given : Data → ModelData
given d = model_data d.model d.n d.ng d.lens.now d.groups.now d.values.now

-- how many values such a model has
abbrev pub size_of : ModelData → ℕ
size_of d = by_model d.model (wilson_size d.n) (uniquac_size d.n) (nrtl_size d.n) (unifac_size d.ng (start d.lens d.n))
