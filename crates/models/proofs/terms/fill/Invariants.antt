use Rattle.arithmetic.specs.Tables.{Vector, Filled}
use Rattle.models.specs.Steps.Terms.{GivesBelow}
use Rattle.models.proofs.terms.fill.Given as goal

abbrev pub invariant-loop-k : goal.invariant-loop-k
invariant-loop-k g l = (t : Vector) → GivesBelow l.n (goal.F-post g l.term) t → Filled t l.k l.v-items
