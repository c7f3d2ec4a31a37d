-- The stale cells below j are gathered, and so many are counted.
use Rattle.std.proofs.Common.{length}
use Rattle.mixture.specs.Steps.Refills.{stale_in}
use Rattle.mixture.proofs.refill.GatherLaws.{Gathering}
use Rattle.mixture.proofs.refill.gather.Given as goal

abbrev pub invariant-loop-j : goal.invariant-loop-j
invariant-loop-j g l = Gathering (length l.fn.out) l.j (stale_in g.I.Inputs.diagonal l.marks l.i) (g.I.Inputs.argument l.inputs l.i) l.out l.count
