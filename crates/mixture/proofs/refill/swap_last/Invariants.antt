-- The first i entries have changed places.
use Rattle.mixture.specs.Steps.Refills.{Swapped}
use Rattle.mixture.proofs.refill.swap_last.Given as goal

abbrev pub invariant-loop-i : goal.invariant-loop-i
invariant-loop-i l = Swapped l.w l.i l.fn.a l.a
