use Rattle.std.proofs.Common.{◌≡◌}
use Rattle.arithmetic.specs.Tables.{at}
use Rattle.arithmetic.proofs.TableLaws.{Filling}
use Rattle.models.specs.Unifac as Unifac
use Rattle.models.specs.Steps.Unifac.{lists_of}
use Rattle.models.proofs.groups.GroupLists.sizes.Given as goal

abbrev pub invariant-loop-i : goal.invariant-loop-i
invariant-loop-i l = (l.i-iterator.lists ≡ l.self) × Filling (Unifac.size (lists_of l.self) (at l.s)) l.self.n 12 l.i-iterator.i l.sizes
