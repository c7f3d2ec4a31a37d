use Rattle.std.proofs.Common.{arith, length-take-le}
use Rattle.models.proofs.GroupListLaws.{pure-over, over-front}
use Rattle.models.proofs.groups.GroupList.fractions.Goals as goal

pub divide-requires : goal.divide-requires
divide-requires c = omega (arith, length-take-le c.args.self.now.ng c.put_counts.new.num (omega (arith, c.requires.0, c.put_counts.auto.num)), c.requires.1)

pub returns : goal.returns
returns c =
    let a = c.args.self.now in
    let over = over-front a.ng c.sum.result c.put_counts.new.num (omega (arith, c.requires.0, c.put_counts.auto.num)) c.divide.ensures in
    pure-over _ _ a.ng a.paired c.sum.ensures c.requires.0 c.put_counts.ensures over
