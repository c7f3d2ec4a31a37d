use Rattle.std.proofs.Common.{rules}
use Rattle.models.specs.Wilson.{wilson}
use Rattle.models.proofs.wilson.Data.value.Goals as goal

pub returns : goal.returns
unfolding wilson
returns c = c.value.ensures _ _ (λ k b r p. search rules) (λ r p. search rules)
