-- The quantity from what the components share and Θ, which are worked out once.
use Rattle.std.proofs.Common.{arith}
use Rattle.arithmetic.proofs.TableLaws.{row-end}
use Rattle.models.proofs.AnswerLaws.{index_ln, index_gamma}
use Rattle.models.proofs.UnifacLaws.{listed_same, unifac_ln, unifac_gamma, unifac-excess}
use Rattle.models.proofs.unifac.terms.Mixture.value.Goals as goal

pub ln_gamma-requires : goal.ln_gamma-requires
ln_gamma-requires c =
    let mix = c.args.self.now in
    let a = mix.lists in
    let here = index_ln c.in-LnGamma.is c.requires.1 in
    (here, omega (arith, mix.few_groups, c.theta_mixed.auto.out), omega (arith, row-end a.n a.ng c.in-LnGamma.i here, c.requires.0))

pub ln_gamma-requires-in-Gamma : goal.ln_gamma-requires-in-Gamma
ln_gamma-requires-in-Gamma c =
    let mix = c.args.self.now in
    let a = mix.lists in
    let here = index_gamma c.in-Gamma.is c.requires.1 in
    (here, omega (arith, mix.few_groups, c.theta_mixed.auto.out), omega (arith, row-end a.n a.ng c.in-Gamma.i here, c.requires.0))

pub returns-in-LnGamma : goal.returns-in-LnGamma
returns-in-LnGamma c =
    unifac_ln _ _ _ _ _ _ _ _ c.share-shared.ensures c.theta_mixed.ensures (listed_same c.args.self.now.lists.listed) c.in-LnGamma.is c.requires.1 c.ln_gamma.ensures

pub returns-in-Gamma : goal.returns-in-Gamma
returns-in-Gamma c =
    unifac_gamma _ _ _ _ _ _ _ _ c.share-shared.ensures c.theta_mixed.ensures (listed_same c.args.self.now.lists.listed) c.in-Gamma.is c.requires.1 c.ln_gamma-in-Gamma.ensures
    c.exp.ensures

pub returns-in-ExcessGibbs : goal.returns-in-ExcessGibbs
returns-in-ExcessGibbs c =
    unifac-excess _ _ _ _ _ _ _ _ c.share-shared.ensures c.theta_mixed.ensures (listed_same c.args.self.now.lists.listed) c.in-ExcessGibbs.is c.requires.1 c.excess_gibbs.ensures
