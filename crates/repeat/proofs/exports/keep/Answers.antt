-- The first turn, then the queries or the turns that the change asks for: the definition's two cases.
use Rattle.std.proofs.Common.{ℕ, ◌*◌, ◌∙◌, List, Float}
use Rattle.arithmetic.specs.Bytes.{float_at}
use Rattle.repeat.proofs.exports.ExportLaws.{turns-asked, turns-set}
use Rattle.repeat.proofs.exports.keep.Goals as goal

-- the temperature of turn k
abbrev T : List ℕ → ℕ → Float
T temperatures k = float_at temperatures (8 * k)

pub returns-then-change-eq0 : goal.returns-then-change-eq0
returns-then-change-eq0 c = turns-asked _ _ _ _ (T c.args.temperatures.now) _ _ c.set_each-first.ensures c.if-change-eq0.true c.ask_each.ensures

pub returns : goal.returns
returns c = c.value_of.ensures ∙ turns-set _ _ _ _ (T c.args.temperatures.now) _ _ c.set_each-first.ensures c.if-change-eq0.false c.set_each-last.ensures
