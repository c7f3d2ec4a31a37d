-- Sixteen places hold the bits of any value but a NaN.
use Rattle.std.proofs.Common.{rules, sym, subst}
use lib.Dec.{T}
use Rattle.arithmetic.proofs.ByteLaws.{has_bits}
use Rattle.strip.proofs.TextLaws.{bits_lt, put_bits, put_nan}
use Rattle.strip.proofs.text.put_value.Goals as goal

pub returns-then-v : goal.returns-then-v
returns-then-v c = put_nan c.args.v c.if-v.true c.put.ensures

pub float_to_bits-v : goal.float_to_bits-v
float_to_bits-v c = has_bits c.args.v c.if-v.false

pub returns : goal.returns
returns c =
    let d = c.hex-k in
    put_bits c.args.v d.result c.if-v.false (bits_lt _ (subst T (sym c.well_formed.1.1.0.1) tt)) d.ensures.len d.ensures.digits c.put-2.ensures
