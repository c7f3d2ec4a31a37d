-- The next list begins where this one ends, which lies within the groups.
use Rattle.std.proofs.Common.{◌≡◌, ◌+◌, ◌≤◌, length, arith}
use Rattle.models.specs.Values.{start}
use Rattle.models.proofs.GroupListLaws.{start_up}
use Rattle.models.proofs.UnifacLaws.{next_start}
use Rattle.models.proofs.groups.EachIterator.next.Goals as goal

pub overflow_add-self-2 : goal.overflow_add-self-2
overflow_add-self-2 c =
    let s = c.args.self.now in
    let l = s.lists in
    let left : s.i + 1 ≤ l.n = let w = s.within in let u = c.if-i-self.false in omega arith in
    let end : s.place + length c.list_from-list.result.groups.now ≡ start l.lens.now (s.i + 1) = next_start l.lens.now l.groups.now l.counts.now s.here c.list_from-list.ensures.same in
    omega (arith, start_up l.lens.now (s.i + 1) l.n left, l.listed.within, c.well_formed)

pub invariant_of-self : goal.invariant_of-self
invariant_of-self c =
    let s = c.args.self.now in
    let l = s.lists in
    record { within = let w = s.within in let u = c.if-i-self.false in omega arith; here = next_start l.lens.now l.groups.now l.counts.now s.here c.list_from-list.ensures.same }
