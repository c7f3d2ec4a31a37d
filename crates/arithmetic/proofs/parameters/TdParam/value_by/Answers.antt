-- The code is the definition, operation by operation.
use Rattle.arithmetic.specs.Parameters.{td_by}
use Rattle.std.proofs.Common.{refl}
use Rattle.arithmetic.proofs.parameters.TdParam.value_by.Goals as goal

pub returns : goal.returns
unfolding td_by
returns c = refl
