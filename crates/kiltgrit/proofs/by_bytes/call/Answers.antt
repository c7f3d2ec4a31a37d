-- Values that are no whole eights, a number of no model, or more values than any has, give 2; else the values are decoded.
use Rattle.std.proofs.Common.{◌∙◌, arith}
use Rattle.arithmetic.specs.Refusals.{answer_of, number}
use Rattle.kiltgrit.proofs.by_bytes.ExportLaws.{whole_eights, exported-rest, exported-none, exported-whole, exported-long}
use Rattle.kiltgrit.proofs.by_bytes.call.Goals as goal

pub returns-then-values-ne0 : goal.returns-then-values-ne0
unfolding answer_of number
returns-then-values-ne0 c = exported-rest _ _ _ _ _ _ _ _ _ _ c.if-values-ne0.true

pub returns-in_default : goal.returns-in_default
unfolding answer_of number
returns-in_default c = exported-none _ _ _ _ _ _ _ _ _ _ c.if-values-ne0.false c.in_default.ensures.0

pub returns-then-count-gt-VALUES : goal.returns-then-count-gt-VALUES
unfolding answer_of number
returns-then-count-gt-VALUES c =
    exported-long _ _ _ _ _ _ _ _ _ _ c.if-values-ne0.false c.in-Ok.ensures.0 c.if-count-gt-VALUES.true

pub returns : goal.returns
returns c =
    let whole = c.if-values-ne0.false in
    let decoded = c.fill_floats.ensures.1 ∙ whole_eights c.args.values.now _ (omega (arith, whole)) in
    exported-whole _ _ _ _ _ c.args.values.now _ _ _ _ whole c.in-Ok.ensures.0 (c.call_with.ensures ∙ rw (c.in-Ok.ensures.1, decoded))
