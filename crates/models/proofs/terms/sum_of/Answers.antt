use Rattle.std.proofs.Common.{arith}
use Rattle.arithmetic.proofs.SumLaws.{sum-none, sum_more, sum_done}
use Rattle.models.proofs.terms.sum_of.Goals as goal

pub loop-k-init : goal.loop-k-init
loop-k-init g c = λ t gives. sum-none t

pub loop-k-preserved : goal.loop-k-preserved
loop-k-preserved g c = λ t gives. sum_more t _ (c.loop-k.invariant t gives) (gives _ c.loop-k-test.true _ c.term-s.ensures)

pub returns : goal.returns
returns g c = λ t gives. sum_done t _ _ (c.loop-k.invariant t gives) (omega (arith, c.loop-k.auto.k-end)) c.loop-k-test.false
