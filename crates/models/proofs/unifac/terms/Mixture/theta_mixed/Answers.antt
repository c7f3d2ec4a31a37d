use Rattle.arithmetic.proofs.TableLaws.{filled-less}
use Rattle.models.proofs.ColumnLaws.{zeros}
use Rattle.models.proofs.UnifacLaws.{theta-from}
use Rattle.models.proofs.unifac.terms.Mixture.theta_mixed.Goals as goal

pub fractions-requires : goal.fractions-requires
fractions-requires c = let mix = c.args.self.now in let few = mix.few_groups in (mix.fractions, few, few, filled-less few (zeros 32))

pub returns : goal.returns
returns c = theta-from _ _ _ c.fractions.ensures c.theta.ensures
