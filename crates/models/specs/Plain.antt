-- The plain calls: document 01, "Models" and "What each call declines".
use Rattle.std.specs.Prelude.{List, [], ℕ, Float}
use Rattle.arithmetic.specs.Refusals.{Answer}
use Rattle.arithmetic.specs.Tables.{Vector, at, from}
use Rattle.models.specs.declared.answers.Quantity.{Quantity}
use Rattle.models.specs.declared.model.Model.{Model}
use Rattle.models.specs.declared.model.Model.TheVariants.{Wilson, Uniquac, Nrtl, Unifac}
use Rattle.models.specs.Answers.{answer, first}
use Rattle.models.specs.Faults.{data_fault, fractions_fault}
use Rattle.models.specs.Model.{by_model, ModelData, model_data}
use Rattle.models.specs.Values.{energies, volumes, rs, qs, taus, alphas, counts_at, group_rs, group_qs, group_as, lists}
use Rattle.models.specs.Wilson.{wilson_at}
use Rattle.models.specs.Uniquac.{uniquac_at}
use Rattle.models.specs.Nrtl.{nrtl_at}
use Rattle.models.specs.Unifac.{unifac_at}

-- the value at T, by the model
unfoldable pub value_at : ModelData → Float → Vector → Quantity → Float
value_at d T x q =
    by_model d.model (wilson_at d.n (volumes d.n d.values) (energies d.n d.values) T x q)
    (uniquac_at d.n (rs d.n d.values) (qs d.n d.values) (energies d.n d.values) T x q)
    (nrtl_at d.n (taus d.n d.values) (alphas d.n d.values) T x q)
    (unifac_at d.n d.ng (lists d.lens d.groups (from (counts_at d.ng) d.values)) (group_rs d.ng d.values)
    (group_qs d.ng d.values) (group_as d.ng d.values) T x q)

-- 2; for UNIFAC then 3 or 4; then 14, 5, 6 and 7
unfoldable pub plain_call : ModelData → Float → Float → List Float → Quantity → Answer Float
plain_call d T ε x q = answer (first (data_fault d) (fractions_fault ε d.n x q)) (value_at d T (at x) q)

-- ---- the four by name

-- a model without lists
abbrev pub bare : Model → ℕ → List Float → ModelData
bare m n values = model_data m n 0 [] [] values

abbrev pub wilson_plain : ℕ → List Float → Float → Float → List Float → Quantity → Answer Float
wilson_plain n values T ε x q = plain_call (bare Wilson n values) T ε x q

abbrev pub uniquac_plain : ℕ → List Float → Float → Float → List Float → Quantity → Answer Float
uniquac_plain n values T ε x q = plain_call (bare Uniquac n values) T ε x q

abbrev pub nrtl_plain : ℕ → List Float → Float → Float → List Float → Quantity → Answer Float
nrtl_plain n values T ε x q = plain_call (bare Nrtl n values) T ε x q

abbrev pub unifac_plain : ℕ → ℕ → List ℕ → List ℕ → List Float → Float → Float → List Float → Quantity → Answer Float
unifac_plain n ng lens groups values T ε x q = plain_call (model_data Unifac n ng lens groups values) T ε x q
