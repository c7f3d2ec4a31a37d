use Rattle.arithmetic.specs.Floats.{◌⊕◌}
use Rattle.arithmetic.specs.Tables.{Vector, at, Filled, up_to}
use Rattle.models.specs.Steps.Terms.{GivesBelow}
use Rattle.models.proofs.terms.add.Given as goal

abbrev pub invariant-loop-k : goal.invariant-loop-k
invariant-loop-k g l =
    (t : Vector) → GivesBelow l.n (goal.F-post g l.term) t →
    Filled (up_to l.k (λ j. at l.fn.sums j ⊕ t j) (at l.fn.sums)) l.n l.s-items
