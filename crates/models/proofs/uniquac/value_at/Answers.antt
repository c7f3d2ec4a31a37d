use Rattle.std.proofs.Common.{rules, ◌*◌, ◌+◌, arith}
use native.Mathlib.Nat.{mul-le-mul}
use Rattle.arithmetic.proofs.TableLaws.{from-room}
use Rattle.models.specs.Values.{uniquac_size}
use Rattle.models.proofs.UniquacLaws.{uniquac-from}
use Rattle.models.proofs.uniquac.value_at.Goals as goal

pub fill_energies-requires : goal.fill_energies-requires
unfolding uniquac_size
fill_energies-requires c = let square = mul-le-mul c.requires.few c.requires.few in search rules

pub slice_bounds-value_over-count : goal.slice_bounds-value_over-count
unfolding uniquac_size
slice_bounds-value_over-count c = omega (arith, c.requires.sized)

pub slice_bounds-value_over-start : goal.slice_bounds-value_over-start
unfolding uniquac_size
slice_bounds-value_over-start c = omega (arith, c.requires.sized)

pub returns : goal.returns
unfolding uniquac_size
returns c = uniquac-from _ _ _ _ _ _ c.requires.sized c.requires.index c.fill_energies.ensures c.value_over.ensures

pub value_over-requires : goal.value_over-requires
unfolding uniquac_size
value_over-requires c =
    let n = c.args.n in
    let values = c.args.values.now in (
      record {
        few = c.requires.few;
        sizes = from-room (n * n) n values (omega (arith, c.requires.sized));
        areas = from-room (n * n + n) n values c.requires.sized;
        table = omega (arith, c.fill_energies.auto.out, mul-le-mul c.requires.few c.requires.few);
        fractions = c.requires.fractions;
      },
      c.requires.index,
    )

pub slice_bounds-value_over-count-2 : goal.slice_bounds-value_over-count-2
unfolding uniquac_size
slice_bounds-value_over-count-2 c = omega (arith, c.requires.sized)

pub slice_bounds-value_over-start-2 : goal.slice_bounds-value_over-start-2
unfolding uniquac_size
slice_bounds-value_over-start-2 c = omega (arith, c.requires.sized)
