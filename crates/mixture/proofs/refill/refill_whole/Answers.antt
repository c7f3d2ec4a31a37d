-- Each cell takes the exp of its own argument.
use Rattle.std.proofs.Common.{◌*◌}
use Rattle.arithmetic.specs.Tables.{at}
use Rattle.mixture.specs.Steps.Refills.{cell_of, stale_of}
use Rattle.mixture.proofs.refill.GatherLaws.{refilled_where, table-cells}
use Rattle.mixture.proofs.refill.refill_whole.Goals as goal

pub returns : goal.returns
returns g c =
    let w = g.I.Inputs.rows c.args.inputs in
    let A = g.I.Inputs.argument c.args.inputs in
    let taken = refilled_where (w * w) (stale_of g.I.Inputs.diagonal w c.args.marks.now) (at c.exp_off_diagonal.new.a) (cell_of w A) c.args.cells.now c.args.marks.now
    (table-cells w A c.args.marks.now c.requires.0.apart c.rows.ensures.0 c.fill_table.ensures c.exp_off_diagonal.ensures) c.take_rows.ensures in
    record { worked = taken.worked; marked = taken.marked; counted = c.requires.0.counted }
