use Rattle.std.proofs.Common.{◌≤◌}
use Rattle.models.specs.Unifac as Unifac
use Rattle.models.specs.Steps.GroupLists.{ListedRows}
use Rattle.models.specs.Steps.Unifac.{lists_of, q_of, psi_of}
use Rattle.models.proofs.unifac.terms.Mixture.fill_pure.Given as goal

abbrev pub invariant-loop-i : goal.invariant-loop-i
invariant-loop-i l = (l.first ≤ l.i) × ListedRows l.first l.i l.self.lists.ng (lists_of l.self.lists) (Unifac.pure l.self.lists.ng (lists_of l.self.lists) (q_of l.self) (psi_of l.self)) l.table
