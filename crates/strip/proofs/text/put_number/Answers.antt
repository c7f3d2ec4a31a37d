-- The fewest digits are the definition's.
use Rattle.std.proofs.Common.{arith}
use Rattle.strip.proofs.TextLaws.{put-digits}
use Rattle.strip.proofs.text.put_number.Goals as goal

pub returns : goal.returns
returns c = let d = c.decimal-k in put-digits c.args.n d.result (omega arith) d.ensures.len d.ensures.digits c.put.ensures
