use Rattle.std.proofs.Common.{◌≡◌, ◌≤◌, length}
use Rattle.arithmetic.specs.Floats.{◌⊗◌}
use Rattle.arithmetic.specs.Sums.{sum}
use Rattle.arithmetic.specs.Tables.{at, Filled}
use Rattle.models.specs.Unifac as Unifac
use Rattle.models.specs.Steps.Unifac.{lists_of}
use Rattle.models.proofs.groups.GroupLists.amounts.Given as goal

abbrev pub invariant-loop-i : goal.invariant-loop-i
invariant-loop-i l = record {
  same : l.i-iterator.lists ≡ l.self;
  within : l.i-iterator.i ≤ l.self.n;
  total : l.sum ≡ sum l.i-iterator.i (λ k. at l.x k ⊗ Unifac.counts (lists_of l.self) k);
  numbers : Filled (Unifac.amount l.i-iterator.i (lists_of l.self) (at l.x)) (length l.initial.num) l.num;
}
