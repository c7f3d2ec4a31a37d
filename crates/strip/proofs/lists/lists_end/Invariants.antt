-- From each place on the lists end where they end from the start; each word that is read lies further on.
use Rattle.std.proofs.Common.{◌≡◌, ◌-◌, ◌≤◌, length}
use Rattle.strip.specs.GroupLists.{lists_at}
use Rattle.strip.specs.Steps.Run.{ahead_of}
use Rattle.strip.proofs.lists.lists_end.Given as goal

abbrev pub invariant-loop : goal.invariant-loop
invariant-loop l = ((ahead_of l.s l.walk).end ≡ (lists_at l.s l.n l.at).end) × (l.at ≤ l.walk.place)

abbrev pub decreases-loop : goal.decreases-loop
decreases-loop l = length l.s - l.walk.place
