use Rattle.std.proofs.Common.{rules, refl}
use lib.Ieee.{round, of_bits}
use Rattle.arithmetic.specs.Floats.{dec, one}
use Rattle.models.proofs.WilsonLaws.{row_own}
use Rattle.models.proofs.wilson.Data.row_sum.Goals as goal

pub returns : goal.returns
unfolding one dec round of_bits
returns c = row_own _ _ _ _ c.args.i refl (c.sum_with_own.ensures _ (λ k b r p. search rules))
