use Rattle.std.proofs.Common.{rules, refl}
use lib.Ieee.{round, of_bits}
use Rattle.arithmetic.specs.Floats.{dec, one}
use Rattle.models.proofs.WilsonLaws.{ln_own}
use Rattle.models.proofs.wilson.Shared.ln_gamma.Goals as goal

pub returns : goal.returns
unfolding one dec round of_bits
returns c =
    ln_own _ _ _ _ _ c.args.self.now.row_sums c.args.i c.requires refl c.log.ensures (c.sum_with_own-s.ensures _ (λ k b r p. search rules))
