use Rattle.std.proofs.Common.{ℕ, length, ap, ◌∙◌, arith}
use Rattle.arithmetic.specs.Floats.{dec}
use Rattle.arithmetic.specs.Refusals.{Value, number, answer_of}
use Rattle.arithmetic.proofs.decimals.Texts.{room-first, room-second, fifteen}
use Rattle.arithmetic.proofs.decimals.Cases.{too_long, few}
use Rattle.arithmetic.proofs.decimals.digits.Goals as goal
use Rattle.arithmetic.proofs.decimals.digits.Goals.{then-a-gt15-via-then-a-gt15, then-a-gt15-via-else-a-gt15+then-b-a}

pub returns-then-a-gt15 : goal.returns-then-a-gt15
unfolding answer_of number
returns-then-a-gt15 c =
    elim c.then-a-gt15.branch [
      | then-a-gt15-via-then-a-gt15 w ↦ too_long c.args.minus c.args.a.now c.args.b.now (omega arith)
      | then-a-gt15-via-else-a-gt15+then-b-a w ↦ too_long c.args.minus c.args.a.now c.args.b.now (omega arith)
    ]

pub valued-requires : goal.valued-requires
valued-requires c = room-first c.args.a.now (omega arith)

pub valued-n-requires : goal.valued-n-requires
valued-n-requires c = rw c.valued.ensures (room-second c.args.a.now c.args.b.now (omega arith))

pub quotient-requires : goal.quotient-requires
quotient-requires c = (rw (c.valued-n.ensures, c.valued.ensures) (fifteen c.args.a.now c.args.b.now (omega arith)), omega arith)

pub returns : goal.returns
unfolding answer_of
returns c =
    ap Value (c.quotient.ensures ∙ ap (λ (n : ℕ). dec c.args.minus n (length c.args.b.now)) c.valued-n.ensures)
    ∙ rw c.valued.ensures (few c.args.minus c.args.a.now c.args.b.now (omega arith))
