-- What is stored and what is left make the text.
use Rattle.std.proofs.Common.{◌-◌, ◌*◌, ◌≤◌, length}
use Rattle.strip.specs.Steps.Run.{lent, rest}
use Rattle.strip.proofs.run.RunLaws.{Walked}
use Rattle.strip.proofs.run.walk.Given as goal

abbrev pub invariant-loop-r : goal.invariant-loop-r
invariant-loop-r l =
    (l.at ≤ length l.s) × (l.pos ≤ 10 * l.at) × Walked l.s l.fn.out (rest l.s 0 (lent l.fn.mixture) l.fn.mixture.head) l.at (lent l.mixture) l.mixture.head l.pos l.out

abbrev pub decreases-loop-r : goal.decreases-loop-r
decreases-loop-r l = length l.s - l.at
