-- The rows above i are refilled.
use Rattle.std.proofs.Common.{◌*◌}
use Rattle.mixture.specs.Steps.Refills.{cell_of, stale_of}
use Rattle.mixture.proofs.RefillLaws.{Refilling}
use Rattle.mixture.proofs.refill.refill_rows.Given as goal

abbrev pub invariant-loop-i : goal.invariant-loop-i
invariant-loop-i g l =
    let w = g.I.Inputs.rows l.inputs in
    Refilling (l.i * w) (stale_of g.I.Inputs.diagonal w l.fn.marks) (cell_of w (g.I.Inputs.argument l.inputs)) l.fn.cells l.fn.marks l.cells l.marks l.count
