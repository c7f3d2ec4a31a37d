-- Copies what stands in the first places.
use Rattle.std.proofs.Common.{refl, arith}
use Rattle.arithmetic.proofs.slices.CopyLaws.{copied_more, copied_all}
use Rattle.arithmetic.proofs.slices.copy.Goals as goal

pub loop-k-init : goal.loop-k-init
loop-k-init g c = (omega arith, refl, refl)

pub loop-k-preserved : goal.loop-k-preserved
loop-k-preserved g c = copied_more c.args.from.now c.args.to.now c.loop-k.to c.loop-k.k c.loop-k.invariant c.index-from-k.result c.index-from-k.is c.requires c.loop-k-test.true

pub returns : goal.returns
returns g c = copied_all c.args.from.now c.args.to.now _ c.loop-k.k c.loop-k.invariant (omega arith)
