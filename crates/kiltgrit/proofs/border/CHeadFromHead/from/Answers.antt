-- Field by field, a flag as the byte 1 or 0.
use Rattle.std.proofs.Common.{◌≡◌, Bool, true, false, cond, refl, ◌∙◌}
use mir.Val.{bool_byte}
use Rattle.kiltgrit.specs.Border.{c_head}
use Rattle.kiltgrit.proofs.border.CHeadFromHead.from.Goals as goal

byte-is : (b : Bool) → bool_byte b ≡ cond b 1 0
byte-is true = refl
byte-is false = refl

pub returns : goal.returns
unfolding c_head
returns c = rw (c.from.ensures ∙ byte-is c.args.h.has_t, c.from-2.ensures ∙ byte-is c.args.h.has_x) refl
