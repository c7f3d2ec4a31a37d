-- Of the marks passed, so many are other than 1.
use Rattle.std.proofs.Common.{◌≡◌}
use Rattle.mixture.specs.Lists.{how_many}
use Rattle.mixture.specs.Steps.Refills.{unmarked}
use Rattle.mixture.proofs.refill.count_unmarked.Given as goal

abbrev pub invariant-loop-mark : goal.invariant-loop-mark
invariant-loop-mark l = l.count ≡ how_many l.mark-index (unmarked l.marks)
