use mathlib.Core.Path.{◌≡◌}
use Prim.Native.Nat.{ℕ, ◌<◌}
use lib.ListN.{length, get_or}
use Rattle.models.specs.Faults.{place_fault}
use Rattle.models.specs.Answers.{first_to}
use Rattle.models.proofs.faults.groups_fault.Given as goal

abbrev pub invariant-loop-group : goal.invariant-loop-group
invariant-loop-group l =
    (0 ≡ first_to (length l.yielded) (place_fault l.ng l.groups l.counts)) × ((k : ℕ) → k < length l.yielded → get_or l.groups k 0 < l.ng)
