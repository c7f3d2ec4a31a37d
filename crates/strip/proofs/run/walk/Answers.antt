-- A turn stores the line of its record's call; past the strip, and at a broken record, the text ends.
use Rattle.std.proofs.Common.{arith, sym}
use Rattle.strip.proofs.RecordLaws.{found, read_done}
use Rattle.strip.proofs.CallLaws.{found_call}
use Rattle.strip.proofs.run.RunLaws.{walk_turn, walk_ends, walk_breaks, walked-long, walked-short}
use Rattle.strip.proofs.run.walk.Goals as goal

pub returns-then-s-gt-MOST_BYTES : goal.returns-then-s-gt-MOST_BYTES
returns-then-s-gt-MOST_BYTES c = let p = c.put.ensures in (walked-long _ _ _ c.if-s-gt-MOST_BYTES.true p, omega (arith, p.long))

pub returns-in-Ok-None : goal.returns-in-Ok-None
returns-in-Ok-None c =
    let n = c.if-s-gt-MOST_BYTES.false in
    let e = rw c.in-Ok-None.field-0-is at c.in-Ok-None.ensures in
    (walked-short _ _ _ n (walk_ends c.loop-r.invariant.2 (read_done _ _ (sym e))), omega (arith, n))

pub loop-r-smaller : goal.loop-r-smaller
loop-r-smaller c =
    let f = found _ _ _ (sym (rw c.in-Ok-Some.field-0-is at c.in-Ok-Some.ensures)) in
    omega (arith, f.body, f.floats, f.next)

pub loop-r-preserved : goal.loop-r-preserved
loop-r-preserved c =
    let e = rw c.in-Ok-Some.field-0-is at c.in-Ok-Some.ensures in
    let f = found _ _ _ (sym e) in
    let p = c.put_answer-pos.ensures in
    (f.next, omega (arith, f.body, f.floats, p.1), walk_turn c.loop-r.invariant.2 (sym e) (found_call _ _ _ _ _ c.if-s-gt-MOST_BYTES.false (sym e) c.make-answer.ensures) p.0)

pub returns-in-Err : goal.returns-in-Err
returns-in-Err c =
    let n = c.if-s-gt-MOST_BYTES.false in
    let p = c.put-in-Err.ensures in
    (walked-short _ _ _ n (walk_breaks c.loop-r.invariant.2 (sym c.in-Err.ensures) p), omega (arith, n, p.long))
