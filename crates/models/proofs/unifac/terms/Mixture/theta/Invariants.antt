use Rattle.std.proofs.Common.{length}
use Rattle.arithmetic.specs.Tables.{at}
use Rattle.arithmetic.proofs.TableLaws.{Filling}
use Rattle.models.specs.Unifac as Unifac
use Rattle.models.specs.Steps.Unifac.{q_of}
use Rattle.models.proofs.unifac.terms.Mixture.theta.Given as goal

abbrev pub invariant-loop-k : goal.invariant-loop-k
invariant-loop-k l = Filling (Unifac.theta l.self.lists.ng (q_of l.self) (at l.fractions)) l.self.lists.ng (length l.initial.out) l.k l.out
