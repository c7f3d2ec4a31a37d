-- The four tests are what easy means.
use Rattle.std.proofs.Common.{T, sym, ◌∙◌, subst, true≢false}
use lib.Ieee.{Float, of_bits, neg, lt, round}
use Rattle.arithmetic.specs.Floats.{◌⊖◌, ◌⊗◌, dec}
use Rattle.arithmetic.specs.Exponential.{reciprocal}
use Rattle.arithmetic.specs.Steps.Nearest.{margin}
use Rattle.arithmetic.proofs.Tests.{passed}
use Rattle.arithmetic.proofs.exponential.ExponentialElementary.is_easy.Goals as goal
use Rattle.arithmetic.proofs.exponential.ExponentialElementary.is_easy.Goals.{then-v, else-v, then-v-2, else-v-2}

pub returns-then-apart : goal.returns-then-apart
unfolding reciprocal dec round of_bits neg
returns-then-apart c under =
    elim c.if-v-2.branch [
      | then-v-2 w ↦ elim c.if-v.branch [
        | then-v z ↦ record {
          least = passed z.if-v.true;
          most = passed (sym z.value-is ∙ w.if-v-2.true);
          above = subst (λ (u : Float). T (lt (neg margin) (reciprocal ⊗ c.args.v ⊖ u))) c.nearest.ensures (passed (sym w.value-is ∙ c.if-apart.true));
          below = subst (λ (u : Float). T (lt (reciprocal ⊗ c.args.v ⊖ u) margin)) c.nearest.ensures (passed under);
        }
        | else-v z ↦ absurd (true≢false (sym w.if-v-2.true ∙ z.value-is ∙ z.if-v.false))
      ]
      | else-v-2 w ↦ absurd (true≢false (sym c.if-apart.true ∙ w.value-is ∙ w.if-v-2.false))
    ]
