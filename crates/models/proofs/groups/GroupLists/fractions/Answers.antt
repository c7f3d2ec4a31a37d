use Rattle.std.proofs.Common.{arith, length-take-le}
use Rattle.models.proofs.ColumnLaws.{zeros}
use Rattle.models.proofs.GroupListLaws.{over-front, fraction-over, fraction-none}
use Rattle.models.proofs.groups.GroupLists.fractions.Goals as goal

pub amounts-sum-requires : goal.amounts-sum-requires
amounts-sum-requires c = (c.requires.0, c.requires.1, zeros 32)

pub divide-requires : goal.divide-requires
divide-requires c =
    let num = c.amounts-sum.new.num in
    omega (arith, length-take-le c.args.self.now.ng num (omega (arith, c.requires.1, c.amounts-sum.auto.num)), c.requires.2)

pub returns-then-sum : goal.returns-then-sum
returns-then-sum c =
    let a = c.args.self.now in
    let over = over-front a.ng c.amounts-sum.result c.amounts-sum.new.num (omega (arith, c.requires.1, c.amounts-sum.auto.num)) c.divide.ensures in
    fraction-over _ _ a.n a.ng 32 c.amounts-sum.ensures.0 c.if-sum.true c.requires.1 c.amounts-sum.ensures.1 over

pub returns-else-sum : goal.returns-else-sum
returns-else-sum c = let a = c.args.self.now in fraction-none _ _ a.n a.ng c.amounts-sum.ensures.0 c.if-sum.false c.requires.3
