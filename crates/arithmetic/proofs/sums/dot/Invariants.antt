use Rattle.std.proofs.Common.{◌≡◌, ◌≤◌, length}
use Rattle.arithmetic.specs.Floats.{◌⊗◌}
use Rattle.arithmetic.specs.Sums.{sum}
use Rattle.arithmetic.specs.Tables.{at}
use Rattle.arithmetic.proofs.sums.dot.Given as goal

abbrev pub invariant-loop-a : goal.invariant-loop-a
invariant-loop-a l = (length l.yielded ≤ l.n) × (l.s ≡ sum (length l.yielded) (λ k. at l.x k ⊗ at l.y k))
