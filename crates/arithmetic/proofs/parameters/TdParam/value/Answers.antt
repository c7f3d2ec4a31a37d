-- The value at T is the second form at log(T), which `log` promises.
use Rattle.arithmetic.specs.Parameters.{td_at, td_by}
use Rattle.std.proofs.Common.{ap, ◌∙◌}
use Rattle.arithmetic.proofs.parameters.TdParam.value.Goals as goal

pub returns : goal.returns
unfolding td_at
returns c = c.value_by.ensures ∙ ap (td_by _ _) c.log.ensures
