use Rattle.std.proofs.Common.{rules, refl, arith}
use lib.Ieee.{round, of_bits}
use Rattle.arithmetic.specs.Floats.{dec, one}
use Rattle.arithmetic.proofs.TableLaws.{from_at, row-end}
use Rattle.models.proofs.UniquacLaws.{residual_own}
use Rattle.models.proofs.uniquac.Shared.residual.Goals as goal

pub returns : goal.returns
unfolding one dec round of_bits
returns c =
    let fits = c.args.self.now.of.fits in
    residual_own _ _ _ _ _ _ _ _ (λ j b. from_at _ _ j (omega (arith, fits.table, row-end c.args.self.now.of.n c.args.self.now.of.n c.args.i c.requires))) refl
    (c.sum_with_own-s.ensures _ (λ k b r p. search rules))
