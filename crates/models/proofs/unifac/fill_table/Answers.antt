use Rattle.std.proofs.Common.{◌+◌, ◌*◌, ◌≤◌, length, refl, arith, mul-le-mul}
use Rattle.arithmetic.proofs.TableLaws.{from-length}
use Rattle.models.specs.Values.{counts_at}
use lib.Ieee.{neg}
use Rattle.arithmetic.specs.Floats.{◌⊘◌}
use Rattle.arithmetic.specs.Exponential.{exp_of}
use Rattle.models.proofs.ExponentialLaws.{each-filled}
use Rattle.models.proofs.GroupListLaws.{front_filled, front_length}
use Rattle.models.proofs.UnifacLaws.{table_filled}
use Rattle.models.proofs.unifac.fill_table.Goals as goal

pub slice_bounds-fill_values-count : goal.slice_bounds-fill_values-count
unfolding counts_at
slice_bounds-fill_values-count c = omega (arith, c.requires.1)

pub slice_bounds-fill_values-start : goal.slice_bounds-fill_values-start
unfolding counts_at
slice_bounds-fill_values-start c = omega (arith, c.requires.1)

pub fill_values-requires : goal.fill_values-requires
unfolding counts_at
fill_values-requires c =
    let n = c.args.ng in
    (omega (arith, from-length (n + n) c.args.values.now, c.requires.1), c.requires.2, omega (arith, mul-le-mul c.requires.0 c.requires.0))

pub returns : goal.returns
returns c =
    let count = c.args.ng * c.args.ng in
    let table = c.fill_values.new.out in
    let room : count ≤ length table = omega (arith, c.fill_values.auto.out, c.requires.2) in
    let over = front_filled count (λ v. neg v ⊘ c.args.t) table room c.over_t.auto.out c.over_t.ensures in
    table_filled _ _ _ c.requires.1 c.fill_values.ensures (each-filled exp_of _ _ (omega (arith, front_length count table c.over_t.new.out room c.over_t.auto.out, room)) (λ k b. refl) over c.exp_each.ensures)
