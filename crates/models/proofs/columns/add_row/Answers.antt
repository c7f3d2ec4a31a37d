use Rattle.std.proofs.Common.{rules}
use Rattle.models.proofs.columns.add_row.Goals as goal

pub returns : goal.returns
returns c = c.add.ensures _ (λ k b r p. search rules)
