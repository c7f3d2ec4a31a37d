use Rattle.std.proofs.Common.{rules, arith}
use Rattle.models.specs.Uniquac.{share, uniquac}
use Rattle.models.proofs.UniquacLaws.{shared}
use Rattle.models.proofs.uniquac.Data.value.Goals as goal

pub invariant_of-shared-clause-worked : goal.invariant_of-shared-clause-worked
unfolding share
invariant_of-shared-clause-worked c =
    let few = c.args.self.fits.few in
    shared _ _ _ _ _ c.dot-rx.ensures (c.sum_of-lx.ensures _ (λ k b r p. search rules)) (c.fill.ensures _ (λ k b r p. search rules)) c.unit_column_sums.ensures
    (omega (arith, c.fill.auto.out, few)) (omega (arith, c.unit_column_sums.auto.sums, few))

pub returns : goal.returns
unfolding uniquac
returns c = c.value.ensures _ _ (λ k b r p. search rules) (λ r p. search rules)
