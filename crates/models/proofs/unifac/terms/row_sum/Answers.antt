use Rattle.std.proofs.Common.{refl, arith}
use Rattle.arithmetic.proofs.TableLaws.{filling_none, filling_more}
use Rattle.models.proofs.ColumnLaws.{terms_sum}
use Rattle.models.proofs.unifac.terms.row_sum.Goals as goal

pub loop-m-init : goal.loop-m-init
loop-m-init c = filling_none (omega arith) refl

pub loop-m-preserved : goal.loop-m-preserved
loop-m-preserved c = filling_more (omega arith) c.loop-m.invariant refl

pub returns : goal.returns
returns c = terms_sum c.loop-m.invariant c.loop-m-test.false c.sum.ensures
