use Rattle.std.proofs.Common.{length}
use lib.Ieee.{neg}
use Rattle.arithmetic.specs.Floats.{◌⊘◌}
use Rattle.arithmetic.specs.Tables.{at}
use Rattle.arithmetic.proofs.TableLaws.{Rewriting}
use Rattle.models.proofs.unifac.over_t.Given as goal

abbrev pub invariant-loop-v : goal.invariant-loop-v
invariant-loop-v l = Rewriting (λ k. neg (at l.initial.v-items k) ⊘ l.t) (length l.initial.v-items) l.initial.v-items l.v-index l.v-items
