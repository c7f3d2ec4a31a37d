-- Queries one after another; at the end these are all.
use Rattle.std.proofs.Common.{◌∙◌, arith}
use Rattle.repeat.proofs.exports.ExportLaws.{asked-none, asked-more, asked-done}
use Rattle.repeat.proofs.exports.ask_each.Goals as goal

pub loop-init : goal.loop-init
loop-init c = (omega arith, asked-none _ _)

pub loop-preserved : goal.loop-preserved
loop-preserved c = (omega arith, asked-more _ _ _ c.loop.invariant.1 c.query-last.ensures)

pub returns : goal.returns
returns c = c.value_of.ensures ∙ asked-done _ _ _ _ c.loop.invariant.1 c.loop.invariant.0 c.loop-test.false
