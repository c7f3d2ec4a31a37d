-- Row i comes back in the middle of cells and marks.
use Rattle.std.proofs.Common.{◌≡◌, ◌≤◌, ◌*◌, zero-mul, arith}
use Rattle.mixture.proofs.RefillLaws.{refilling, refilled-none, row-cells, row_room, rows_more}
use Rattle.mixture.proofs.refill.refill_rows.Goals as goal

pub loop-i-init : goal.loop-i-init
loop-i-init g c = refilling (refilled-none _ _ _ _ _ (zero-mul _))

pub overflow_add-count : goal.overflow_add-count
overflow_add-count g c =
    let w = g.I.Inputs.rows c.args.inputs in
    let few : c.refill_row-count.result ≤ w = (refilling c.refill_row-count.ensures).few in
    omega (arith, row_room w c.loop-i.i c.requires.few (omega arith))

pub loop-i-preserved : goal.loop-i-preserved
loop-i-preserved g c =
    let w = g.I.Inputs.rows c.args.inputs in
    let place : c.loop-i.i * c.rows-w.result ≡ c.loop-i.i * w = rw c.rows-w.ensures.0 in
    rows_more g.I.Inputs.diagonal w c.loop-i.i _ _ c.args.cells.now c.args.marks.now (omega arith) c.requires.room c.requires.marked
    (λ j b. row-cells w (g.I.Inputs.argument c.args.inputs) c.loop-i.i j b) place c.loop-i.invariant c.refill_row-count.ensures
