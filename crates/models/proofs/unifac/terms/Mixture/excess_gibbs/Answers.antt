use Rattle.std.proofs.Common.{◌+◌, ◌*◌, ◌≤◌, ◌<◌, length, arith}
use Rattle.arithmetic.proofs.SumLaws.{sum-none, sum_more, sum_done}
use Rattle.arithmetic.proofs.TableLaws.{row-end}
use Rattle.models.proofs.UnifacLaws.{turn, turns_end, named_filled, residual-own, ln_from_lem}
use Rattle.models.proofs.unifac.terms.Mixture.excess_gibbs.Goals as goal

pub loop-i-init : goal.loop-i-init
loop-i-init c =
    let e = c.into_iter-i-iterator.ensures.into_iter_gives in
    let each = c.each-i-items.ensures in
    rw (e, each.1) record { same = each.0; within = omega arith; total = sum-none _ }

pub slice_bounds-residual-count : goal.slice_bounds-residual-count
slice_bounds-residual-count c =
    let a = c.args.self.now.lists in
    let n = turn a c.loop-i.i-iterator c.next.new.self c.loop-i.invariant.same c.in-Some.ensures.steps in
    let here : c.in-Some.i < a.n = omega (arith, n.0, n.1) in
    omega (arith, row-end a.n a.ng c.in-Some.i here, c.requires.1)

pub loop-i-preserved : goal.loop-i-preserved
loop-i-preserved c =
    let a = c.args.self.now.lists in
    let n = turn a c.loop-i.i-iterator c.next.new.self c.loop-i.invariant.same c.in-Some.ensures.steps in
    let here : c.in-Some.i < a.n = omega (arith, n.0, n.1) in
    let list = rw (← n.1) at n.2 in
    let room : c.in-Some.i * a.ng + a.ng ≤ length c.args.pure.now = omega (arith, row-end a.n a.ng c.in-Some.i here, c.requires.1) in
    let residual = residual-own _ _ list.same _ c.args.pure.now (named_filled list.same.below c.gammas.ensures) room c.residual-residual.ensures in
    let ln = ln_from_lem c.args.shared.now a.ng _ _ _ _ _ c.in-Some.i c.combinatorial.ensures residual in
    record { same = n.3; within = omega (arith, n.0, n.4); total = rw n.4 (sum_more _ _ c.loop-i.invariant.total (rw (ln, n.1))) }

pub returns : goal.returns
returns c =
    let inv = c.loop-i.invariant in
    sum_done _ _ _ inv.total inv.within (turns_end c.args.self.now.lists c.loop-i.i-iterator inv.same c.in-None.ensures.steps)
