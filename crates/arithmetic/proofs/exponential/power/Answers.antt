-- The bits are the biased exponent with no digits below it, which is 2^k.
use lib.Ieee.{is_nan}
use lib.Ieee.Bits.{nan_bits_is}
use Rattle.arithmetic.proofs.Powers.{power-is}
use Rattle.arithmetic.proofs.exponential.power.Goals as goal

pub float_from_bits-result : goal.float_from_bits-result
unfolding is_nan
float_from_bits-result c = rw (nan_bits_is, power-is c.args.k c.ranges.k c.requires) tt

pub returns : goal.returns
returns c = power-is c.args.k c.ranges.k c.requires
