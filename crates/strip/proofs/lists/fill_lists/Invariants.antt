-- What is stored and what is ahead make the lists.
use Rattle.std.proofs.Common.{◌-◌, ◌≤◌, length}
use Rattle.strip.specs.GroupLists.{lists_at}
use Rattle.strip.specs.Steps.Run.{ahead_of}
use Rattle.strip.proofs.GroupListLaws.{Storing}
use Rattle.strip.proofs.lists.fill_lists.Given as goal

abbrev pub invariant-loop-part : goal.invariant-loop-part
invariant-loop-part l =
    (l.met.groups ≤ l.walk.place) × Storing (lists_at l.s l.n l.at) l.fn.lens l.fn.groups l.fn.counts (ahead_of l.s l.walk) l.met l.lens l.groups l.counts

abbrev pub decreases-loop-part : goal.decreases-loop-part
decreases-loop-part l = length l.s - l.walk.place
