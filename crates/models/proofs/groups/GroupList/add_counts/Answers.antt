use Rattle.std.proofs.Common.{length, arith}
use Rattle.std.proofs.lemmas.Slice.Zip.{zip_turn, zip_end}
use lib.Ieee.{nan}
use Rattle.models.proofs.GroupListLaws.{gathering_none, gathering_push, gathering_done}
use Rattle.models.proofs.groups.GroupList.add_counts.Goals as goal

pub loop-g-init : goal.loop-g-init
loop-g-init c = gathering_none

pub loop-g-preserved : goal.loop-g-preserved
loop-g-preserved c =
    let a = c.args.self.now in
    let turn = zip_turn a.groups.now a.counts.now c.loop-g.yielded c.into_iter-g-iterator.result c.loop-g.g-iterator c.next.new.self c.next.result (cc) (cc) c.loop-g.yielded_by (c.in-Some.g, c.in-Some.count) c.in-Some.is c.next.ensures.steps in
    let group = turn.2 0 in
    let count = turn.3 nan in
    let from = c.from-g.ensures in
    gathering_push c.loop-g.yielded _ (omega (arith, turn.0)) (cc) (omega (arith, a.paired.below (length c.loop-g.yielded) turn.0, c.loop-g.invariant.long)) (cc) c.loop-g.invariant

pub returns : goal.returns
returns c =
    let a = c.args.self.now in
    let all = zip_end a.groups.now a.counts.now c.loop-g.yielded c.into_iter-g-iterator.result c.loop-g.g-iterator c.next.new.self c.next.result (cc) (cc) c.loop-g.yielded_by c.in-None.is c.next.ensures.steps in
    gathering_done (omega (arith, a.paired.counted)) c.loop-g.invariant
