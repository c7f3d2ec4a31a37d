use Rattle.std.proofs.Common.{refl}
use Rattle.arithmetic.proofs.TableLaws.{filling_none, filling_more, filling_done}
use Rattle.models.proofs.groups.divide.Goals as goal

pub loop-k-init : goal.loop-k-init
loop-k-init c = filling_none c.requires refl

pub loop-k-preserved : goal.loop-k-preserved
loop-k-preserved c = filling_more c.loop-k-test.true c.loop-k.invariant refl

pub returns : goal.returns
returns c = filling_done c.loop-k-test.false c.loop-k.invariant
