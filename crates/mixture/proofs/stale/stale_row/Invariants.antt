-- The marks of the columns below j are written.
use Rattle.std.proofs.Common.{◌≡◌}
use Rattle.mixture.specs.Lists.{written}
use Rattle.mixture.specs.Steps.Blocks.{in_row}
use Rattle.mixture.proofs.stale.stale_row.Given as goal

abbrev pub invariant-loop-j : goal.invariant-loop-j
invariant-loop-j l = l.marks ≡ written (in_row l.start l.fn.block.left l.j l.diagonal l.i) (λ c. 0) l.fn.marks
