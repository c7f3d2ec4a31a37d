-- What fits is stored, all of the text or its front.
use Rattle.std.proofs.Common.{arith}
use Rattle.strip.proofs.TextLaws.{put-past, put-front}
use Rattle.strip.proofs.text.put.Goals as goal

pub returns-then-at-out : goal.returns-then-at-out
returns-then-at-out c = put-front _ _ _ c.min-n.result _ c.if-at-out.true c.min-n.ensures (omega arith) c.copy_from_slice.ensures.after

pub returns-else-at-out : goal.returns-else-at-out
returns-else-at-out c = put-past _ _ _ c.if-at-out.false
