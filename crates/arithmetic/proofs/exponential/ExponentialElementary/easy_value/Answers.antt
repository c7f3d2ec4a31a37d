-- The float n is k, so each return is the line of `exp_of` that the test picks.
use Rattle.std.proofs.Common.{◌≡◌, true, false, ◌&&◌, negsuc, ap, ◌∙◌}
use lib.Ieee.{Float, fin, binary64, of_bits, neg, round, le}
use Rattle.arithmetic.specs.Floats.{◌⊗◌, dec, one, two^}
use Rattle.arithmetic.specs.Exponential.{exponent, reduced, reciprocal}
use Rattle.arithmetic.specs.Steps.Nearest.{nearest}
use Rattle.arithmetic.proofs.Powers.{scaled-within}
use Rattle.arithmetic.proofs.ExpBranches.{exp_tiny, exp_rest}
use Rattle.arithmetic.proofs.exponential.EasyExp.{found, as_whole, wide_is, unscaled, easy_plain}
use Rattle.arithmetic.proofs.exponential.ExponentialElementary.easy_value.Goals as goal

-- n in the words of `nearest`
over : (v n : Float) → n ≡ nearest (of_bits binary64 4609176140021203710 ⊗ v) → n ≡ nearest (reciprocal ⊗ v)
unfolding reciprocal dec round of_bits
over v n e = e

not_tiny : (v : Float) → le (neg (of_bits binary64 4481081629233643520)) v && le v (of_bits binary64 4481081629233643520) ≡ false → le (fin true 1 (negsuc 27)) v && le v (fin false 1 (negsuc 27)) ≡ false
unfolding of_bits neg
not_tiny v e = e

pub float_to_int-n : goal.float_to_int-n
float_to_int-n c =
    let v = c.args.v in
    as_whole v (found v c.requires) c.nearest-n.result (over v _ c.nearest-n.ensures)

pub power-requires : goal.power-requires
power-requires c =
    let v = c.args.v in
    let f = found v c.requires in
    rw (c.from.ensures, wide_is v f c.nearest-n.result (over v _ c.nearest-n.ensures)) f.small

pub returns-then-v : goal.returns-then-v
unfolding one dec round of_bits neg
returns-then-v c = let e = easy_plain c.args.v c.requires in exp_tiny c.args.v e.0 e.1 e.2 c.if-v.true

pub returns-else-v : goal.returns-else-v
returns-else-v c =
    let v = c.args.v in
    let n = over v _ c.nearest-n.ensures in
    let f = found v c.requires in
    let e = easy_plain v c.requires in
    let u = unscaled (exponent v) f.small in
    let power = c.power.ensures ∙ ap two^ (rw c.from.ensures (wide_is v f c.nearest-n.result n)) in
    rw (c.reduced.ensures (exponent v) (n ∙ f.is)) (scaled-within (reduced v (exponent v)) c.power.result (exponent v) u.0 u.1 power)
    ∙ exp_rest v e.0 e.1 e.2 (not_tiny v c.if-v.false)
