use Rattle.std.proofs.Common.{refl}
use Rattle.models.specs.Values.{five_at}
use Rattle.models.proofs.parameters.five_at.Goals as goal

pub returns : goal.returns
unfolding five_at
returns c = refl
