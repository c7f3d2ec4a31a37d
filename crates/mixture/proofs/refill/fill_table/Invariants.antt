-- The rows above i are written.
use Rattle.std.proofs.Common.{◌*◌}
use Rattle.arithmetic.specs.Tables.{flat, Filled}
use Rattle.mixture.proofs.refill.fill_table.Given as goal

abbrev pub invariant-loop-i : goal.invariant-loop-i
invariant-loop-i g l = let w = g.I.Inputs.rows l.inputs in Filled (flat w (g.I.Inputs.argument l.inputs)) (l.i * w) l.out
