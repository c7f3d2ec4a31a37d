use Rattle.std.proofs.Common.{length}
use Rattle.arithmetic.specs.Floats.{◌⊗◌}
use Rattle.arithmetic.specs.Tables.{at}
use Rattle.models.specs.Steps.Unifac.{psi_of}
use Rattle.models.proofs.ColumnLaws.{Columns}
use Rattle.models.proofs.unifac.terms.Mixture.column_sums.Given as goal

abbrev pub invariant-loop-m : goal.invariant-loop-m
invariant-loop-m l = Columns (λ k j. at l.theta k ⊗ psi_of l.self k j) l.self.lists.ng (length l.initial.sums) l.m l.sums
