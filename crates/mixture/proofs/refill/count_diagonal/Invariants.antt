-- Of the marks passed, so many are other than 1.
use Rattle.std.proofs.Common.{◌≡◌, ◌+◌, ◌*◌}
use Rattle.mixture.specs.Lists.{how_many}
use Rattle.mixture.specs.Steps.Refills.{unmarked}
use Rattle.mixture.proofs.refill.count_diagonal.Given as goal

abbrev pub invariant-loop-i : goal.invariant-loop-i
invariant-loop-i l = l.count ≡ how_many l.i (λ i. unmarked l.marks (i * l.w + i))
