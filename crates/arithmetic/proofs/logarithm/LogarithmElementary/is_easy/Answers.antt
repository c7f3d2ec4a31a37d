-- The three tests are what normal means.
use Rattle.std.proofs.Common.{sym, ◌∙◌, true≢false}
use Rattle.std.proofs.lemmas.Bool.{not-true, eqb-false}
use lib.Ieee.{of_bits}
use Rattle.arithmetic.proofs.Tests.{passed}
use Rattle.arithmetic.proofs.logarithm.LogarithmElementary.is_easy.Goals as goal
use Rattle.arithmetic.proofs.logarithm.LogarithmElementary.is_easy.Goals.{then-v, else-v}

pub returns-then-v-2 : goal.returns-then-v-2
unfolding of_bits
returns-then-v-2 c nonzero =
    elim c.if-v.branch [
      | then-v w ↦ record {
        above = passed w.if-v.true;
        below = passed (sym w.value-is ∙ c.if-v-2.true);
        field = eqb-false _ 0 (not-true _ nonzero);
      }
      | else-v w ↦ absurd (true≢false (sym c.if-v-2.true ∙ w.value-is ∙ w.if-v.false))
    ]
