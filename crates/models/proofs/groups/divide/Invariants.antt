use Rattle.std.proofs.Common.{length}
use Rattle.arithmetic.specs.Floats.{◌⊘◌}
use Rattle.arithmetic.specs.Tables.{at}
use Rattle.arithmetic.proofs.TableLaws.{Filling}
use Rattle.models.proofs.groups.divide.Given as goal

abbrev pub invariant-loop-k : goal.invariant-loop-k
invariant-loop-k l = Filling (λ k. at l.num k ⊘ l.d) (length l.num) (length l.initial.out) l.k l.out
