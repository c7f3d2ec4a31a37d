use Rattle.std.proofs.Common.{◌≡◌}
use Rattle.arithmetic.specs.Sums.{sum}
use Rattle.arithmetic.specs.Tables.{Vector}
use Rattle.models.specs.Steps.Terms.{GivesBelow}
use Rattle.models.proofs.terms.sum_of.Given as goal

abbrev pub invariant-loop-k : goal.invariant-loop-k
invariant-loop-k g l = (t : Vector) → GivesBelow l.n (goal.F-post g l.term) t → l.s ≡ sum l.k t
