use Rattle.std.proofs.Common.{length, get_or}
use Rattle.arithmetic.specs.Floats.{◌⊕◌, ◌⊗◌}
use Rattle.arithmetic.specs.Tables.{at}
use Rattle.models.proofs.GroupListLaws.{Gathering}
use Rattle.models.proofs.groups.GroupList.add_counts.Given as goal

abbrev pub invariant-loop-g : goal.invariant-loop-g
invariant-loop-g l = Gathering (λ k. get_or l.self.groups.now k 0) (λ k s. s ⊕ l.x ⊗ at l.self.counts.now k) (length l.self.groups.now) l.initial.num (length l.yielded) l.num
