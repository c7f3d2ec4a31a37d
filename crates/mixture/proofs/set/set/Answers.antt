-- Replaces what the setting names: what `change` says of memory, with the reply to what came of it.
use Rattle.std.proofs.Common.{◌∙◌}
use Rattle.mixture.proofs.set.set.Goals as goal

pub returns-then-head : goal.returns-then-head
returns-then-head c = c.reply_by.ensures _ ∙ c.change-changed.ensures

pub returns : goal.returns
returns c = c.reply_by-2.ensures _ ∙ c.change-changed-2.ensures
