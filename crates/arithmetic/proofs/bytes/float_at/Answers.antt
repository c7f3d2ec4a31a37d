-- The two words make the bit pattern.
use Rattle.arithmetic.proofs.ByteLaws.{float_is}
use Rattle.arithmetic.proofs.bytes.float_at.Goals as goal

pub returns : goal.returns
returns c = float_is _ _ _ _ _ c.word_at-low.ensures.0 c.word_at-high.ensures.0 c.float_of.ensures
