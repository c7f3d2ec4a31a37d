-- Either table has a place for each τ.
use Rattle.std.proofs.Common.{◌≤◌, arith}
use native.Mathlib.Nat.{mul-le-mul}
use Rattle.mixture.proofs.query.nrtl.Goals as goal

pub nrtl_within-requires : goal.nrtl_within-requires
nrtl_within-requires c = let few : c.args.head.now.n ≤ 4 = omega (arith, c.if-head-lt5.true) in (c.requires, mul-le-mul few few, omega arith)

pub nrtl_within-requires-2 : goal.nrtl_within-requires-2
nrtl_within-requires-2 c = (c.requires, mul-le-mul c.requires.few c.requires.few, omega arith)
