use Rattle.std.proofs.Common.{arith, refl}
use Rattle.arithmetic.proofs.TableLaws.{filling_none, filling_more, filling_done}
use Rattle.models.proofs.UnifacLaws.{turn, turns_end, size-own}
use Rattle.models.proofs.groups.GroupLists.sizes.Goals as goal

pub loop-i-init : goal.loop-i-init
loop-i-init c =
    let e = c.into_iter-i-iterator.ensures.into_iter_gives in
    let each = c.each-i-items.ensures in
    rw (e, each.1) (each.0, filling_none (omega (arith, c.args.self.now.few)) refl)

pub size-requires : goal.size-requires
size-requires c = let n = turn c.args.self.now c.loop-i.i-iterator c.next.new.self c.loop-i.invariant.0 c.in-Some.ensures.steps in omega (arith, n.2.groups)

pub loop-i-preserved : goal.loop-i-preserved
loop-i-preserved c =
    let inv = c.loop-i.invariant in
    let n = turn c.args.self.now c.loop-i.i-iterator c.next.new.self inv.0 c.in-Some.ensures.steps in
    (n.3, rw (n.1, n.4) (filling_more n.0 inv.1 (size-own _ _ n.2.same _ c.size.ensures)))

pub returns : goal.returns
returns c = filling_done (turns_end c.args.self.now c.loop-i.i-iterator c.loop-i.invariant.0 c.in-None.ensures.steps) c.loop-i.invariant.1
