-- The code is the definition; k as a float is exact.
use lib.Ieee.{round, of_bits}
use Rattle.std.proofs.Common.{w32}
use mir.ValLaws.{to_z-of_z}
use Rattle.arithmetic.specs.Floats.{dec, L1, L2, one, two, half}
use Rattle.arithmetic.specs.Logarithm.{log_by}
use Rattle.arithmetic.proofs.logarithm.log_by.Goals as goal

pub returns : goal.returns
unfolding log_by L1 L2 one two half dec round of_bits
returns c = rw (c.remainder-r.ensures, to_z-of_z w32 c.args.k c.ranges.k)
