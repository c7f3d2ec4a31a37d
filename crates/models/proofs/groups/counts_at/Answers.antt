-- The counts come after R, Q and ng·ng fives, of which 32 groups have 5,120.
use Rattle.std.proofs.Common.{refl, mul-le-mul, arith}
use Rattle.models.specs.Values.{counts_at}
use Rattle.models.proofs.groups.counts_at.Goals as goal

pub returns : goal.returns
unfolding counts_at
returns c = (refl, omega (arith, mul-le-mul c.requires c.requires))
