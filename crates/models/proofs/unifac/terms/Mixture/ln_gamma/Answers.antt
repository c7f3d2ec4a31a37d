use Rattle.models.proofs.UnifacLaws.{ln_from_lem, residual-own}
use Rattle.models.proofs.unifac.terms.Mixture.ln_gamma.Goals as goal

pub returns : goal.returns
returns c =
    let same = c.list-list.ensures.same in
    ln_from_lem _ _ _ _ _ _ _ _ c.combinatorial.ensures (residual-own _ _ same _ c.args.pure.now c.gammas_of.ensures c.requires.2 c.residual.ensures)
