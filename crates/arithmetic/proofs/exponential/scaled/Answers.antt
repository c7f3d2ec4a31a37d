-- Each branch multiplies by the powers that `scaled` names, k being as the machine reads it back.
use Rattle.std.proofs.Common.{pos, ◌+ℤ◌, ◌-ℤ◌, ap, ◌∙◌, w64}
use mir.ValLaws.{to_z-of_z}
use Rattle.arithmetic.specs.Floats.{two^}
use Rattle.arithmetic.proofs.Powers.{over, under, scaled-over, scaled_under, scaled-within}
use Rattle.arithmetic.proofs.exponential.scaled.Goals as goal

pub returns-then-k-gt1023 : goal.returns-then-k-gt1023
returns-then-k-gt1023 c =
    let k = c.args.k in
    let back = to_z-of_z w64 k c.ranges.k in
    let above = rw back at c.if-k-gt1023.true in
    let n = over k c.requires above in
    scaled-over c.args.y c.power.result c.power-then-k-gt1023.result k above c.power.ensures
    (c.power-then-k-gt1023.ensures ∙ ap two^ (rw (back, to_z-of_z w64 (k -ℤ pos 1023) n.1)))

pub returns-then-k-ltminus1022 : goal.returns-then-k-ltminus1022
returns-then-k-ltminus1022 c =
    let k = c.args.k in
    let back = to_z-of_z w64 k c.ranges.k in
    let below = rw back at c.if-k-ltminus1022.true in
    let n = under k c.requires below in
    scaled_under c.args.y c.power-then-k-ltminus1022.result c.power-then-k-ltminus1022-2.result k (rw back at c.if-k-gt1023.false) below
    (c.power-then-k-ltminus1022.ensures ∙ ap two^ (rw (back, to_z-of_z w64 (k +ℤ pos 1000) n.1))) c.power-then-k-ltminus1022-2.ensures

pub returns : goal.returns
returns c =
    let back = to_z-of_z w64 c.args.k c.ranges.k in
    scaled-within c.args.y c.power-2.result c.args.k (rw back at c.if-k-gt1023.false) (rw back at c.if-k-ltminus1022.false) (c.power-2.ensures ∙ ap two^ back)
