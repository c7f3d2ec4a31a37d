use Rattle.std.proofs.Common.{arith, le_antisymm}
use Rattle.arithmetic.specs.Tables.{at}
use Rattle.arithmetic.proofs.SumLaws.{sum-none, sum_more, sum_done}
use Rattle.models.specs.Unifac as Unifac
use Rattle.models.proofs.GroupListLaws.{amount-none, amount-more}
use Rattle.models.proofs.UnifacLaws.{turn, turns_end, added-own, counts-own}
use Rattle.models.proofs.groups.GroupLists.amounts.Goals as goal

pub loop-i-init : goal.loop-i-init
loop-i-init c =
    let e = c.into_iter-i-iterator.ensures.into_iter_gives in
    let each = c.each-i-items.ensures in
    rw (e, each.1) record { same = each.0; within = omega arith; total = sum-none _; numbers = amount-none _ _ _ c.requires.2 }

pub add_counts-requires : goal.add_counts-requires
add_counts-requires c =
    let n = turn c.args.self.now c.loop-i.i-iterator c.next.new.self c.loop-i.invariant.same c.in-Some.ensures.steps in
    omega (arith, n.2.groups, c.loop-i.auto.num)

pub loop-i-preserved : goal.loop-i-preserved
loop-i-preserved c =
    let inv = c.loop-i.invariant in
    let l = c.in-Some.list in
    let n = turn c.args.self.now c.loop-i.i-iterator c.next.new.self inv.same c.in-Some.ensures.steps in
    let added = added-own _ _ n.2.same (at c.args.x.now c.in-Some.i) (at c.loop-i.num) c.add_counts.ensures in
    record {
      same = n.3;
      within = omega (arith, n.0, n.4);
      total = rw n.4 (sum_more _ _ inv.total (rw (n.1, counts-own _ _ n.2.same l.paired.counted c.sum.ensures)));
      numbers = rw n.4 (amount-more _ _ _ _ c.loop-i.auto.num inv.numbers (rw n.1 at added));
    }

pub returns : goal.returns
unfolding Unifac.amounts
returns c =
    let inv = c.loop-i.invariant in
    let end = turns_end c.args.self.now c.loop-i.i-iterator inv.same c.in-None.ensures.steps in
    (sum_done _ _ _ inv.total inv.within end, rw (← le_antisymm inv.within end) inv.numbers)
