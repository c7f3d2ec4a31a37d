-- The line stands whole in a local, and is stored.
use Rattle.std.proofs.Common.{arith, sym}
use lib.Seq.{length-take-le}
use Rattle.strip.proofs.TextLaws.{put-line}
use Rattle.strip.proofs.text.put_answer.Goals as goal

pub slice_bounds-put-end : goal.slice_bounds-put-end
slice_bounds-put-end c = let w = c.write_line-k in sym (length-take-le w.result _ (omega (arith, w.ensures.1, w.auto.text)))

pub returns : goal.returns
returns c = put-line _ _ c.write_line-k.ensures (omega (arith, c.write_line-k.ensures.1)) c.put.ensures
