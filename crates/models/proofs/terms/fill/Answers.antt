use Rattle.std.proofs.Common.{arith, length-take-le}
use Rattle.arithmetic.proofs.TableLaws.{filled_none, filled_more}
use Rattle.models.proofs.TermLaws.{part_filled}
use Rattle.models.proofs.terms.fill.Goals as goal

pub loop-k-init : goal.loop-k-init
loop-k-init g c = λ t gives. filled_none (omega arith)

pub loop-k-preserved : goal.loop-k-preserved
loop-k-preserved g c =
    λ t gives.
    filled_more (omega arith) (omega (arith, c.loop-k.auto.v-items, c.loop-k-test.true)) (c.loop-k.invariant t gives)
    (gives _ (omega (arith, c.loop-k-test.true, length-take-le c.args.n c.args.out.now c.requires.room)) _ c.term.ensures)

pub returns : goal.returns
returns g c =
    λ t gives.
    let long = length-take-le c.args.n c.args.out.now c.requires.room in
    part_filled _ (omega (arith, c.loop-k.auto.v-items, long)) (omega (arith, c.loop-k-test.false, long)) (c.loop-k.invariant t gives)
