use Rattle.std.proofs.Common.{◌<◌, arith, length-take-le}
use Rattle.models.proofs.TermLaws.{part_old, part_more, part_rewritten}
use Rattle.models.proofs.terms.add.Goals as goal

pub loop-k-init : goal.loop-k-init
loop-k-init g c = λ t gives. part_old _ _ _

pub loop-k-preserved : goal.loop-k-preserved
loop-k-preserved g c =
    λ t gives.
    let long = length-take-le c.args.n c.args.sums.now c.requires.room in
    let below : c.loop-k.k < c.args.n = omega (arith, c.loop-k-test.true, long) in
    part_more t _ _ _ (omega (arith, c.loop-k.auto.s-items, long)) below (gives _ below _ c.term.ensures) (c.loop-k.invariant t gives)

pub returns : goal.returns
returns g c =
    λ t gives.
    let long = length-take-le c.args.n c.args.sums.now c.requires.room in
    part_rewritten _ _ _ _ _ (omega (arith, c.loop-k.auto.s-items, long)) (omega (arith, c.loop-k-test.false, long)) (c.loop-k.invariant t gives)
