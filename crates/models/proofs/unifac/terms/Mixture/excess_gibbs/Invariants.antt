use Rattle.std.proofs.Common.{◌≡◌, ◌≤◌}
use Rattle.arithmetic.specs.Floats.{◌⊗◌}
use Rattle.arithmetic.specs.Sums.{sum}
use Rattle.arithmetic.specs.Tables.{at, grid}
use Rattle.models.specs.Steps.Unifac.{lists_of, q_of, psi_of, x_of, ln_from}
use Rattle.models.proofs.unifac.terms.Mixture.excess_gibbs.Given as goal

abbrev pub invariant-loop-i : goal.invariant-loop-i
invariant-loop-i l = record {
  same : l.i-iterator.lists ≡ l.self.lists;
  within : l.i-iterator.i ≤ l.self.lists.n;
  total : l.total ≡ sum l.i-iterator.i (λ i. x_of l.self i ⊗ ln_from l.shared l.self.lists.ng (lists_of l.self.lists) (q_of l.self) (psi_of l.self) (at l.theta) (grid l.self.lists.ng l.pure) i);
}
