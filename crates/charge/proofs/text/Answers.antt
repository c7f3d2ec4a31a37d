-- The buffer is as long as the longest text, so that it holds this one whole.
use Rattle.std.proofs.Common.{arith}
use Rattle.strip.proofs.TextLaws.{put_whole}
use Rattle.charge.proofs.text.Goals as goal

pub returns-clause-text : goal.returns-clause-text
returns-clause-text c = put_whole c.run.ensures.0 (omega (arith, c.run.ensures.1))
