-- The fractions of the groups in the pure component, then Θ, then ln Γ of the groups listed.
use Rattle.models.specs.Unifac as Unifac
use Rattle.models.proofs.UnifacLaws.{groups-from}
use Rattle.models.proofs.unifac.terms.Mixture.pure_gammas.Goals as goal

pub returns : goal.returns
unfolding Unifac.pure
returns c =
    let l = c.args.list.now in
    let fractions = rw c.requires.0 at c.fractions.ensures in
    let below = rw c.requires.0 at l.paired.below in
    groups-from _ _ _ _ _ _ below fractions c.theta.ensures c.gammas_of.ensures
