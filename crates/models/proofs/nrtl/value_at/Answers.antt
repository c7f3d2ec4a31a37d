-- τ at T fills its table, and G its own: equal entries, equal answers.
use Rattle.std.proofs.Common.{◌*◌, ◌≤◌, rules, arith}
use native.Mathlib.Nat.{mul-le-mul}
use Rattle.arithmetic.proofs.TableLaws.{from-length}
use Rattle.models.specs.Values.{nrtl_size}
use Rattle.models.proofs.NrtlLaws.{nrtl-from}
use Rattle.models.proofs.nrtl.value_at.Goals as goal

pub slice_bounds-fill_exponentials-count : goal.slice_bounds-fill_exponentials-count
unfolding nrtl_size
slice_bounds-fill_exponentials-count c = omega (arith, c.requires.sized)

pub slice_bounds-fill_exponentials-start : goal.slice_bounds-fill_exponentials-start
unfolding nrtl_size
slice_bounds-fill_exponentials-start c = omega (arith, c.requires.sized)

pub fill_exponentials-requires : goal.fill_exponentials-requires
unfolding nrtl_size
fill_exponentials-requires c =
    let n = c.args.n in
    let square : n * n ≤ 144 = mul-le-mul c.requires.few c.requires.few in
    (omega (arith, c.requires.sized, from-length (n * n * 5) c.args.values.now), omega (arith, square, c.fill_taus.auto), square)

pub returns : goal.returns
unfolding nrtl_size
returns c =
    nrtl-from _ _ _ _ _ _ _ c.requires.sized c.requires.index c.fill_taus.ensures c.fill_exponentials.ensures c.value_over.ensures
