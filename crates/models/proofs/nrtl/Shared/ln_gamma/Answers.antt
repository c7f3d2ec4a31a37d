use Rattle.std.proofs.Common.{rules, arith}
use lib.Ieee.{round, of_bits}
use Rattle.arithmetic.specs.Floats.{dec, one}
use Rattle.arithmetic.proofs.TableLaws.{from_at, row-end}
use Rattle.models.proofs.NrtlLaws.{ln_own}
use Rattle.models.proofs.nrtl.Shared.ln_gamma.Goals as goal

pub returns : goal.returns
unfolding one dec round of_bits
returns c =
    let h = c.args.self.now in
    let s = h.of in
    let fits = s.fits in
    let ends = row-end s.n s.n c.args.i c.requires in
    ln_own _ _ _ _ h.numerators h.denominators _ c.requires _ _ (λ j b. from_at s.g.now _ j (omega (arith, fits.table, ends))) (λ j b. from_at s.tau.now _ j (omega (arith, fits.taus, ends)))
    c.term-own.ensures (c.sum_with_own-s.ensures _ (λ k b r p. search rules))
