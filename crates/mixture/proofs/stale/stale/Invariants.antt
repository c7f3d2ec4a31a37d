-- The rows of the block above i are written.
use Rattle.std.proofs.Common.{◌≡◌, ◌+◌}
use Rattle.mixture.specs.Lists.{written}
use Rattle.mixture.proofs.stale.StaleLaws.{to_row}
use Rattle.mixture.proofs.stale.stale.Given as goal

abbrev pub invariant-loop-i : goal.invariant-loop-i
invariant-loop-i l = l.marks ≡ written (to_row l.w l.diagonal l.block.top l.block.left (l.block.left + l.block.columns) l.i) (λ c. 0) l.fn.marks
