use Rattle.std.proofs.Common.{refl, arith}
use Rattle.arithmetic.specs.Exponential.{exp_of}
use Rattle.models.proofs.ExponentialLaws.{each-filled}
use Rattle.models.proofs.nrtl.fill_exponentials.Goals as goal

pub returns : goal.returns
returns c =
    each-filled exp_of _ _ (omega (arith, c.fill_arguments.auto.out, c.requires)) (λ k b. refl) c.fill_arguments.ensures c.exp_each.ensures
