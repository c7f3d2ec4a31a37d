use Rattle.std.proofs.Common.{rules, arith}
use Rattle.arithmetic.specs.Floats.{◌⊖◌, ◌⊗◌}
use Rattle.arithmetic.specs.Tables.{at}
use Rattle.models.proofs.TermLaws.{range_fold}
use Rattle.models.proofs.WilsonLaws.{excess_of_logs}
use Rattle.models.proofs.wilson.Shared.excess_gibbs.Goals as goal

pub returns : goal.returns
returns c =
    excess_of_logs _ _ _ _ _ _ _ (omega (arith, c.log_each.auto.a)) c.args.self.now.row_sums c.log_each.ensures
    (range_fold _ (λ i s. s ⊖ at c.args.self.now.of.x.now i ⊗ at c.log_each.new.a i) _ (λ s k r f' p. search rules) _ _ _ c.fold.ensures.ran)
