-- Decodes values and fractions and repeats over them: the three tests that give 0 are the definition's, and so are the decoded rows.
use Rattle.std.proofs.Common.{lt-ltb, le-ltb}
use lib.Ieee.{of_bits}
use Rattle.repeat.specs.Exports.{repeated_bytes}
use Rattle.repeat.proofs.exports.ExportLaws.{bytes-are}
use Rattle.repeat.proofs.exports.kiltgrit_repeat.Goals as goal

pub returns-then-count-gt-VALUES : goal.returns-then-count-gt-VALUES
unfolding repeated_bytes of_bits
returns-then-count-gt-VALUES c = rw (lt-ltb _ _ c.if-count-gt-VALUES.true)

pub returns-then-parts-gt-COMPONENTS : goal.returns-then-parts-gt-COMPONENTS
unfolding repeated_bytes of_bits
returns-then-parts-gt-COMPONENTS c = rw (le-ltb _ _ c.if-count-gt-VALUES.false, lt-ltb _ _ c.if-parts-gt-COMPONENTS.true)

pub returns-then-temperatures-lt8 : goal.returns-then-temperatures-lt8
unfolding repeated_bytes of_bits
returns-then-temperatures-lt8 c =
    rw (le-ltb _ _ c.if-count-gt-VALUES.false, le-ltb _ _ c.if-parts-gt-COMPONENTS.false, lt-ltb _ _ c.if-temperatures-lt8.true)

pub returns : goal.returns
returns c = bytes-are _ _ _ _ _ _ _ _ _ _ _ _ c.if-count-gt-VALUES.false c.if-parts-gt-COMPONENTS.false c.if-temperatures-lt8.false c.model_of.ensures c.fill_floats.ensures.1 c.fill_floats-2.ensures.1 c.quantity_of-q.ensures c.repeat.ensures
