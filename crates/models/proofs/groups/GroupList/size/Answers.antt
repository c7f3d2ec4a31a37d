use Rattle.std.proofs.Common.{arith}
use Rattle.std.proofs.lemmas.Slice.Zip.{zip_turn, zip_end}
use lib.Ieee.{nan}
use Rattle.arithmetic.proofs.SumLaws.{sum-none, sum_done}
use Rattle.models.specs.Unifac as Unifac
use Rattle.models.proofs.GroupListLaws.{sum_push}
use Rattle.models.proofs.groups.GroupList.size.Goals as goal

pub loop-g-init : goal.loop-g-init
loop-g-init c = sum-none _

pub loop-g-preserved : goal.loop-g-preserved
loop-g-preserved c =
    let a = c.args.self.now in
    let turn = zip_turn a.groups.now a.counts.now c.loop-g.yielded c.into_iter-g-iterator.result c.loop-g.g-iterator c.next.new.self c.next.result (cc) (cc) c.loop-g.yielded_by (c.in-Some.g, c.in-Some.count) c.in-Some.is c.next.ensures.steps in
    let group = turn.2 0 in
    let count = turn.3 nan in
    let from = c.from.ensures in
    sum_push _ c.loop-g.yielded _ c.loop-g.invariant (cc)

pub returns : goal.returns
unfolding Unifac.size
returns c =
    let a = c.args.self.now in
    let all = zip_end a.groups.now a.counts.now c.loop-g.yielded c.into_iter-g-iterator.result c.loop-g.g-iterator c.next.new.self c.next.result (cc) (cc) c.loop-g.yielded_by c.in-None.is c.next.ensures.steps in
    sum_done _ _ _ c.loop-g.invariant (omega (arith, a.paired.counted)) (omega (arith, a.paired.counted))
