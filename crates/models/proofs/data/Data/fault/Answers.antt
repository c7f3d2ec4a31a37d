-- The fault of the data: the size that the code works out is the model's where n is in range.
use mathlib.Core.Path.{refl, sym, ◌∙◌}
use Rattle.std.proofs.lemmas.Result.{on_ok_weaker}
use Rattle.models.proofs.AnswerLaws.{shape_size}
use Rattle.models.proofs.data.DataLaws.{with_groups, without}
use Rattle.models.proofs.data.Data.fault.Goals as goal

pub returns-then-has_groups-clause-refused : goal.returns-then-has_groups-clause-refused
returns-then-has_groups-clause-refused c = c.unifac_fault.ensures.refused ∙ (with_groups _ (sym c.if-has_groups.true ∙ c.has_groups.ensures)).0

pub returns-then-has_groups-clause-passed : goal.returns-then-has_groups-clause-passed
returns-then-has_groups-clause-passed c = on_ok_weaker _ (with_groups _ (sym c.if-has_groups.true ∙ c.has_groups.ensures)).1 c.unifac_fault.ensures.passed

pub returns-clause-refused : goal.returns-clause-refused
returns-clause-refused c =
    c.shape_fault.ensures.refused ∙ shape_size _ _ _ _ c.size_of.ensures ∙ (without _ (sym c.if-has_groups.false ∙ c.has_groups.ensures) refl).0
