use Rattle.std.proofs.Common.{◌*◌, ap}
use Rattle.arithmetic.specs.Parameters.{td_at, td_by}
use Rattle.arithmetic.proofs.TableLaws.{filled_as}
use Rattle.models.specs.Values.{five_at}
use Rattle.models.proofs.parameters.fill_values.Goals as goal

pub returns : goal.returns
unfolding td_at
returns c =
    filled_as (λ k b. ap (td_by (five_at c.args.fives.now (k * 5)) c.args.t) c.log.ensures) c.fill_values_by.ensures
