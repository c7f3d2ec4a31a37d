use Rattle.std.proofs.Common.{get_or}
use Rattle.arithmetic.specs.Tables.{at}
use Rattle.models.specs.Unifac.{ln_group}
use Rattle.models.specs.Steps.GroupLists.{Named}
use Rattle.models.specs.Steps.Unifac.{q_of, psi_of}
use Rattle.models.proofs.unifac.terms.Mixture.gammas_of.Given as goal

abbrev pub invariant-loop-g : goal.invariant-loop-g
invariant-loop-g l = Named l.g-index (λ p. get_or l.list.groups.now p 0) (ln_group l.self.lists.ng (q_of l.self) (psi_of l.self) (at l.theta)) l.out
