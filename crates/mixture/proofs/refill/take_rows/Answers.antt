-- Row i comes back in the middle of cells and marks.
use Rattle.std.proofs.Common.{◌≡◌, ◌∙◌, ◌≤◌, ◌+◌, ◌*◌, ℕ, ap, zero-mul, rules, arith}
use Rattle.arithmetic.specs.Tables.{at, from}
use Rattle.arithmetic.proofs.TableLaws.{from_at, row-end}
use Rattle.mixture.proofs.RefillLaws.{refilling, refilled-none, row_room, rows_more}
use Rattle.mixture.proofs.refill.take_rows.Goals as goal

pub loop-i-init : goal.loop-i-init
loop-i-init g c = refilling (refilled-none _ _ _ _ _ (zero-mul _))

pub overflow_add-count : goal.overflow_add-count
overflow_add-count g c =
    let w = g.I.Inputs.rows c.args.inputs in
    let row = c.fill_stale-count.ensures (at (from (c.loop-i.i * c.rows-w.result) c.args.worked.now)) (λ j r b t e. search rules) in
    let few : c.fill_stale-count.result ≤ w = (refilling row).few in
    omega (arith, row_room w c.loop-i.i c.requires.0.few (omega arith))

pub loop-i-preserved : goal.loop-i-preserved
loop-i-preserved g c =
    let w = g.I.Inputs.rows c.args.inputs in
    let worked = c.args.worked.now in
    let place : c.loop-i.i * c.rows-w.result ≡ c.loop-i.i * w = rw c.rows-w.ensures.0 in
    let row = c.fill_stale-count.ensures (at (from (c.loop-i.i * c.rows-w.result) worked)) (λ j r b t e. search rules) in
    rows_more g.I.Inputs.diagonal w c.loop-i.i _ _ c.args.cells.now c.args.marks.now (omega arith) c.requires.0.room c.requires.0.marked
    (λ j b.
    from_at worked (c.loop-i.i * c.rows-w.result) j (omega (arith, row-end w w c.loop-i.i (omega arith))) ∙ ap (λ (z : ℕ). at worked (z + j)) place)
    place c.loop-i.invariant row
