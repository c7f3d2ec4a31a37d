use Rattle.std.proofs.Common.{rules}
use Rattle.models.proofs.nrtl.fill_arguments.Goals as goal

pub returns : goal.returns
returns c = c.fill.ensures _ (λ k b r p. search rules)
