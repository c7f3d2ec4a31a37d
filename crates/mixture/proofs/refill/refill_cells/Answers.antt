-- Each takes its exponential.
use Rattle.std.proofs.Common.{rules}
use Rattle.mixture.proofs.refill.refill_cells.Goals as goal

pub returns : goal.returns
returns g c = c.fill_stale.ensures _ (λ j r b t e. search rules)
