-- The stale cells below j are taken, and so many are counted.
use Rattle.mixture.specs.Steps.Refills.{stale_in, Takes}
use Rattle.mixture.proofs.RefillLaws.{RowRefilling}
use Rattle.mixture.proofs.refill.fill_stale.Given as goal

abbrev pub invariant-loop-j : goal.invariant-loop-j
invariant-loop-j g l =
    RowRefilling g.I.Inputs.diagonal l.fn.i
    (Takes (g.I.Inputs.rows l.fn.inputs) (stale_in g.I.Inputs.diagonal l.fn.marks l.fn.i) (goal.F-post g l.fn.value))
    l.j l.fn.cells l.fn.marks l.cells l.marks l.count
