use Rattle.std.proofs.Common.{rules, ◌*◌, arith}
use native.Mathlib.Nat.{mul-le-mul}
use Rattle.arithmetic.proofs.TableLaws.{from-length}
use Rattle.models.specs.Values.{wilson_size}
use Rattle.models.proofs.WilsonLaws.{wilson-from}
use Rattle.models.proofs.wilson.value_at.Goals as goal

pub fill_energies-requires : goal.fill_energies-requires
unfolding wilson_size
fill_energies-requires c = let square = mul-le-mul c.requires.few c.requires.few in search rules

pub slice_bounds-value_over-count : goal.slice_bounds-value_over-count
unfolding wilson_size
slice_bounds-value_over-count c = omega (arith, c.requires.sized)

pub value_over-requires : goal.value_over-requires
unfolding wilson_size
value_over-requires c =
    let square = mul-le-mul c.requires.few c.requires.few in let part = from-length (c.args.n * c.args.n) c.args.values.now in search rules

pub returns : goal.returns
unfolding wilson_size
returns c = wilson-from _ _ _ _ _ _ c.requires.sized c.requires.index c.fill_energies.ensures c.value_over.ensures

pub slice_bounds-value_over-start : goal.slice_bounds-value_over-start
unfolding wilson_size
slice_bounds-value_over-start c = omega (arith, c.requires.sized)
