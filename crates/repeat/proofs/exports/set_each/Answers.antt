-- A setting and a query in each turn; at the end these are all.
use Rattle.std.proofs.Common.{ℕ, ◌*◌, arith, List, Float}
use Rattle.arithmetic.specs.Bytes.{float_at}
use Rattle.repeat.proofs.exports.ExportLaws.{set-none, set_more, set-done}
use Rattle.repeat.proofs.exports.set_each.Goals as goal

-- the temperature of turn k
abbrev T : List ℕ → ℕ → Float
T temperatures k = float_at temperatures (8 * k)

pub loop-k-init : goal.loop-k-init
loop-k-init c = (omega arith, omega arith, set-none _ _ _ _ (T c.args.temperatures.now) _ _)

pub loop-k-preserved : goal.loop-k-preserved
loop-k-preserved c = (
  omega arith,
  omega arith,
  set_more _ _ _ _ (T c.args.temperatures.now) _ _ _ c.loop-k.invariant.0 c.loop-k.invariant.2 c.float_at.ensures c.setting_of-s.ensures c.set-set.ensures c.query-asked.ensures,
)

pub returns : goal.returns
returns c = set-done _ _ _ _ (T c.args.temperatures.now) _ _ _ _ c.loop-k.invariant.2 c.loop-k.invariant.1 c.loop-k-test.false
