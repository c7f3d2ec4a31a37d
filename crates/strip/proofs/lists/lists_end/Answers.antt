-- Ahead of the start stand the lists.
use Rattle.std.proofs.Common.{arith, refl}
use Rattle.strip.specs.GroupLists.{pairs_at}
use Rattle.strip.proofs.lists.lists_end.Goals as goal

pub loop-init : goal.loop-init
unfolding pairs_at
loop-init c = (refl, omega arith)
