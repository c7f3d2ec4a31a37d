-- Nothing is stale.
use Rattle.std.proofs.Common.{sym, ◌∙◌}
use Rattle.mixture.proofs.RefillLaws.{refilled-fresh}
use Rattle.mixture.proofs.refill.FreshLaws.{none_of}
use Rattle.mixture.proofs.refill.refill.Goals as goal

pub returns-then-count-eq0 : goal.returns-then-count-eq0
returns-then-count-eq0 g c = refilled-fresh _ _ _ _ _ (none_of _ _ (sym c.count_table-count.ensures ∙ c.if-count-eq0.true))
