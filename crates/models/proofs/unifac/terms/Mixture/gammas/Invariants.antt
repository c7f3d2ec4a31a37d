use Rattle.std.proofs.Common.{length}
use Rattle.arithmetic.specs.Tables.{at}
use Rattle.arithmetic.proofs.TableLaws.{Filling}
use Rattle.models.specs.Unifac.{ln_group}
use Rattle.models.specs.Steps.Unifac.{q_of, psi_of}
use Rattle.models.proofs.unifac.terms.Mixture.gammas.Given as goal

abbrev pub invariant-loop-k : goal.invariant-loop-k
invariant-loop-k l = Filling (ln_group l.self.lists.ng (q_of l.self) (psi_of l.self) (at l.theta)) l.self.lists.ng (length l.initial.out) l.k l.out
