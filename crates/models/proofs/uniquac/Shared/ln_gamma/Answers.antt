use Rattle.models.proofs.UniquacLaws.{ln_gamma_shared}
use Rattle.models.proofs.uniquac.Shared.ln_gamma.Goals as goal

pub returns : goal.returns
returns c =
    let phi = c.phi-phi.ensures in
    ln_gamma_shared _ _ _ _ _ _ _ _ _ c.args.self.now.worked _ c.requires (rw phi) c.log.ensures (rw (← phi) c.log-ln_area.ensures) c.combinatorial-c.ensures c.log-2.ensures c.residual.ensures
