-- The reply to a setting, by what came of it.
use Rattle.mixture.proofs.set.reply_by.Goals as goal

pub returns : goal.returns
returns c m = rw (c.head_after.ensures, c.answer_by.ensures)
