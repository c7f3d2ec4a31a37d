-- Where all cells are stale each argument stands at its own place.
use Rattle.std.proofs.Common.{◌∙◌}
use Rattle.mixture.proofs.refill.GatherLaws.{gathered-all}
use Rattle.mixture.proofs.refill.gather_row.Goals as goal

pub returns-then-count-rows : goal.returns-then-count-rows
returns-then-count-rows g c = gathered-all _ _ _ c.requires.1 (c.if-count-rows.true ∙ c.rows.ensures.0) c.fill_arguments.ensures
