use Rattle.std.proofs.Common.{◌∙◌, arith}
use Rattle.arithmetic.specs.Refusals.{number, answer_of}
use Rattle.arithmetic.proofs.decimals.Texts.{leading_le}
use Rattle.arithmetic.proofs.decimals.Cases.{pointed-none, pointed-other, pointed-digits}
use Rattle.arithmetic.proofs.decimals.pointed.Goals as goal
use Rattle.arithmetic.proofs.decimals.pointed.Goals.{then-f-eq0-via-then-f-eq0, then-f-eq0-via-else-f-eq0+then-f-b}

pub returns-then-f-eq0 : goal.returns-then-f-eq0
unfolding answer_of number
returns-then-f-eq0 c =
    elim c.then-f-eq0.branch [
      | then-f-eq0-via-then-f-eq0 w ↦ pointed-none c.args.minus c.args.a.now c.args.b.now (omega arith)
      | then-f-eq0-via-else-f-eq0+then-f-b w ↦
          pointed-other c.args.minus c.args.a.now c.args.b.now (omega arith) (omega (arith, leading_le c.args.b.now))
    ]

pub returns : goal.returns
returns c = c.digits.ensures ∙ pointed-digits c.args.minus c.args.a.now c.args.b.now (omega arith) (omega arith)
