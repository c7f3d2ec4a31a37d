-- The parts of a line one after the other: each case is the definition's line.
use Rattle.strip.proofs.TextLaws.{done_is, value_is, refused_is, line-done, line_refused, line-value}
use Rattle.strip.proofs.text.write_line.Goals as goal

pub returns-in-Ok-Done : goal.returns-in-Ok-Done
returns-in-Ok-Done c = line-done (done_is c.in-Ok-Done.is (rw c.in-Ok-Done.is at c.in-Ok-Done.field-0-is)) c.put.ensures

pub returns-in-Ok-Value : goal.returns-in-Ok-Value
returns-in-Ok-Value c =
    line-value _ _ (value_is c.in-Ok-Value.is (rw c.in-Ok-Value.is at c.in-Ok-Value.field-0-is))
    c.put_value-p.ensures c.put-in-Ok-Value.ensures c.put_number.ensures c.put-in-Ok-Value-2.ensures

pub returns-in-Err : goal.returns-in-Err
returns-in-Err c = line_refused _ (refused_is c.in-Err.is c.from-k.ensures) c.put-p.ensures c.put_number-in-Err.ensures c.put-in-Err.ensures
