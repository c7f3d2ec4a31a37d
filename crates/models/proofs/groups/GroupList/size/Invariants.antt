use Rattle.std.proofs.Common.{◌≡◌, length, get_or}
use Rattle.arithmetic.specs.Floats.{◌⊗◌}
use Rattle.arithmetic.specs.Sums.{sum}
use Rattle.arithmetic.specs.Tables.{at}
use Rattle.models.proofs.groups.GroupList.size.Given as goal

abbrev pub invariant-loop-g : goal.invariant-loop-g
invariant-loop-g l = l.size ≡ sum (length l.yielded) (λ k. at l.self.counts.now k ⊗ at l.s (get_or l.self.groups.now k 0))
