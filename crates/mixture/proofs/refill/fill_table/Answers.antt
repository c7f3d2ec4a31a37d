-- Row i comes back in the middle.
use Rattle.std.proofs.Common.{◌≡◌, ◌*◌, arith}
use Rattle.arithmetic.proofs.TableLaws.{row-end, from-length, filled_none}
use Rattle.mixture.proofs.refill.GatherLaws.{table_more}
use Rattle.mixture.proofs.refill.fill_table.Goals as goal

pub loop-i-init : goal.loop-i-init
loop-i-init g c = filled_none (omega arith)

pub loop-i-preserved : goal.loop-i-preserved
loop-i-preserved g c =
    let e : c.rows-w.result ≡ g.I.Inputs.rows c.args.inputs = c.rows-w.ensures.0 in
    let w = g.I.Inputs.rows c.args.inputs in
    let place : c.loop-i.i * c.rows-w.result ≡ c.loop-i.i * w = rw e in
    let end = row-end w w c.loop-i.i (omega arith) in
    table_more _ _ c.loop-i.i place (omega (arith, end)) (omega (arith, end, from-length (c.loop-i.i * c.rows-w.result) c.loop-i.out, c.fill_arguments.auto.out)) c.fill_arguments.ensures c.loop-i.invariant
