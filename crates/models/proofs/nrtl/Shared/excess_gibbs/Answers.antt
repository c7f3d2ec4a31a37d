use Rattle.std.proofs.Common.{rules, ◌∙◌}
use Rattle.models.proofs.NrtlLaws.{excess_hoisted}
use Rattle.models.proofs.nrtl.Shared.excess_gibbs.Goals as goal

pub returns : goal.returns
returns c =
    c.sum_of.ensures _ (λ k b r p. search rules) ∙ excess_hoisted _ _ _ _ c.args.self.now.numerators c.args.self.now.denominators
