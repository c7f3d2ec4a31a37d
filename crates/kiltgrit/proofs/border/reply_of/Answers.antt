-- A refusal with the head as it came, else what the mixture gave: the definition's two cases.
use Rattle.std.proofs.Common.{ap}
use lib.Ieee.{of_bits}
use Rattle.kiltgrit.specs.declared.border.CAnswer.{CAnswer}
use Rattle.kiltgrit.specs.Border.{answer_of}
use Rattle.kiltgrit.proofs.Laws.{refused-reply, done-reply}
use Rattle.kiltgrit.proofs.border.reply_of.Goals as goal

pub returns-then-told-ne0 : goal.returns-then-told-ne0
unfolding answer_of of_bits
returns-then-told-ne0 c = refused-reply _ c.args.p.head _ (ap (λ (t : CAnswer). t.refused) c.from-told.ensures) c.if-told-ne0.true

pub returns : goal.returns
unfolding answer_of
returns c =
    let told = c.from-told.ensures in
    done-reply _ _ _ (ap (λ (t : CAnswer). t.refused) told) c.if-told-ne0.false c.from.ensures (ap (λ (t : CAnswer). t.value) told) (ap (λ (t : CAnswer). t.cells_worked) told)
