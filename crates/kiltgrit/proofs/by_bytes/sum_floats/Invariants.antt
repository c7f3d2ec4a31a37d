-- The sum of the floats passed.
use Rattle.std.proofs.Common.{◌≡◌, ◌*◌, ◌/◌, ◌≤◌, length}
use Rattle.arithmetic.specs.Bytes.{float_at}
use Rattle.arithmetic.specs.Sums.{sum}
use Rattle.kiltgrit.proofs.by_bytes.sum_floats.Given as goal

abbrev pub invariant-loop-k : goal.invariant-loop-k
invariant-loop-k l = (l.k ≤ length l.x / 8) × (l.s ≡ sum l.k (λ k. float_at l.x (8 * k)))
