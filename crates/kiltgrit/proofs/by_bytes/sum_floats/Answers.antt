-- At the loop's end these are all floats.
use Rattle.std.proofs.Common.{◌∙◌, arith}
use Rattle.arithmetic.proofs.SumLaws.{sum-none, sum_more, sum_done}
use Rattle.kiltgrit.proofs.by_bytes.ExportLaws.{total_eights}
use Rattle.kiltgrit.proofs.by_bytes.sum_floats.Goals as goal

pub loop-k-init : goal.loop-k-init
loop-k-init c = (omega arith, sum-none _)

pub loop-k-preserved : goal.loop-k-preserved
loop-k-preserved c = (omega arith, sum_more _ _ c.loop-k.invariant.1 c.float_at-s.ensures)

pub returns : goal.returns
returns c = sum_done _ _ _ c.loop-k.invariant.1 c.loop-k.invariant.0 (omega arith) ∙ total_eights _
