use Rattle.arithmetic.specs.Floats.{◌⊗◌, ◌⊘◌}
use Rattle.arithmetic.specs.Tables.{at}
use Rattle.arithmetic.proofs.TableLaws.{Filling}
use Rattle.models.proofs.unifac.terms.row_sum.Given as goal

abbrev pub invariant-loop-m : goal.invariant-loop-m
invariant-loop-m l = Filling (λ m. at l.theta m ⊗ at l.row m ⊘ at l.sums m) l.ng 32 l.m l.terms
