-- C's numbers. One that means nothing becomes an index or an n that no model has, so that it is declined in that argument's own
-- place.
use Rattle.std.specs.Prelude.{Bool, ◌&&◌, ◌||◌, cond, List, ℕ, ltb, eqb, Float}
use Rattle.arithmetic.specs.Floats.{+0}
use Rattle.models.specs.declared.answers.Quantity.{Quantity}
use Rattle.models.specs.declared.answers.Quantity.TheVariants.{LnGamma}
use Rattle.models.specs.Answers.{quantity_of}
use Rattle.mixture.specs.declared.setting.Setting.{Setting}
use Rattle.mixture.specs.declared.setting.Setting.TheVariants.{Size, Tolerance}
use Rattle.models.specs.Model.{model_of, is_model, ModelData, model_data}
use Rattle.models.specs.Values.{five_at}
use Rattle.strip.specs.Calls.{setting_of as setting_of_kind}
use Rattle.kiltgrit.specs.declared.arguments.CSetting.{CSetting}

-- 2^64 - 1
abbrev pub no_index : ℕ
no_index = 18446744073709551615

-- 0 ln γ, 1 γ, 2 the excess energy
unfoldable pub quantity_asked : ℕ → ℕ → Quantity
quantity_asked asked i = cond (ltb asked 3) (quantity_of asked i) (LnGamma no_index)

-- n, where there is such a model and the form, which is kept for later, is 0
unfoldable pub known_n : ℕ → ℕ → ℕ → ℕ
known_n model form n = cond (is_model model && eqb form 0) n 0

-- what a load brings
abbrev pub load_of : ℕ → ℕ → ℕ → ℕ → List ℕ → List ℕ → List Float → ModelData
load_of model form n ng lens groups given = model_data (model_of model) (known_n model form n) ng lens groups given

-- a kind of the strip's that is a setting; 14 is the tolerance
abbrev pub is_kind : ℕ → Bool
is_kind k = eqb k 5 || eqb k 7 || eqb k 8 || eqb k 9 || eqb k 10 || eqb k 14

unfoldable pub setting_of : CSetting → Setting
setting_of s =
    let five = five_at s.v 0 in
    cond (is_kind s.kind) (cond (eqb s.kind 14) (Tolerance five.a) (setting_of_kind s.kind s.i s.j five))
    (Size no_index 0 +0)
