-- A turn lets its two entries change places.
use Rattle.std.proofs.Common.{arith}
use Rattle.mixture.proofs.refill.GatherLaws.{swapped_more}
use Rattle.mixture.proofs.refill.swap_last.Goals as goal

pub loop-i-preserved : goal.loop-i-preserved
loop-i-preserved c = swapped_more c.args.w c.loop-i.i (omega arith) (omega arith) c.swap.ensures.after c.loop-i.invariant
