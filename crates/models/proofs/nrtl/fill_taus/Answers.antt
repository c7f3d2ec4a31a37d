use Rattle.std.proofs.Common.{arith}
use native.Mathlib.Nat.{mul-le-mul}
use Rattle.models.specs.Values.{nrtl_size}
use Rattle.models.proofs.nrtl.fill_taus.Goals as goal

pub fill_values-requires : goal.fill_values-requires
unfolding nrtl_size
fill_values-requires c =
    let small = mul-le-mul c.requires.0 c.requires.0 in (omega (arith, c.requires.1), c.requires.2, omega (arith, small))
