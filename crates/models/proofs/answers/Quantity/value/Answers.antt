use Rattle.models.proofs.AnswerLaws.{index_ln, index_gamma, quantity_ln, quantity_gamma, quantity-excess}
use Rattle.models.proofs.answers.Quantity.value.Goals as goal

pub ln_gamma-requires : goal.ln_gamma-requires
ln_gamma-requires g c = c.requires.each _ (index_ln c.in-LnGamma.is c.requires.index)

pub returns-in-LnGamma : goal.returns-in-LnGamma
returns-in-LnGamma g c =
    λ f e each one. quantity_ln f e c.in-LnGamma.is (each _ (index_ln c.in-LnGamma.is c.requires.index) _ c.ln_gamma.ensures)

pub ln_gamma-requires-in-Gamma : goal.ln_gamma-requires-in-Gamma
ln_gamma-requires-in-Gamma g c = c.requires.each _ (index_gamma c.in-Gamma.is c.requires.index)

pub returns-in-Gamma : goal.returns-in-Gamma
returns-in-Gamma g c =
    λ f e each one.
    quantity_gamma f e c.in-Gamma.is (each _ (index_gamma c.in-Gamma.is c.requires.index) _ c.ln_gamma-in-Gamma.ensures) c.exp.ensures

pub returns : goal.returns
returns g c = λ f e each one. quantity-excess f e c.in-ExcessGibbs.is (one _ c.excess.ensures)
