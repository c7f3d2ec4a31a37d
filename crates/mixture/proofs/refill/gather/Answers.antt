-- A turn writes its argument where its cell is stale.
use Rattle.std.proofs.Common.{arith}
use Rattle.mixture.proofs.refill.GatherLaws.{gathering_none, gathering_skip, gathering_more}
use Rattle.mixture.proofs.refill.gather.Goals.{then-is_stale, else-is_stale}
use Rattle.mixture.proofs.refill.gather.Goals as goal

pub loop-j-init : goal.loop-j-init
loop-j-init g c = gathering_none _ _ _

pub loop-j-preserved : goal.loop-j-preserved
loop-j-preserved g c =
    let told = rw c.has_diagonal.ensures at c.is_stale.ensures in
    elim c.if-is_stale.branch [
      | then-is_stale w ↦ gathering_more c.loop-j.invariant told (omega arith) w.if-is_stale.true w.argument.ensures w.out-is w.count-is
      | else-is_stale w ↦ gathering_skip c.loop-j.invariant told w.if-is_stale.false w.out-is w.count-is
    ]
