use Rattle.std.proofs.Common.{◌≡◌, arith, ◌∙◌}
use Rattle.std.proofs.lemmas.Grind.{common_steps}
use Rattle.std.specs.List.{fold}
use lib.Ieee.{binary64, of_bits}
use Rattle.arithmetic.specs.Floats.{◌⊕◌}
use Rattle.arithmetic.proofs.SumLaws.{total-folded}
use Rattle.arithmetic.proofs.sums.sum.Goals as goal

pub returns : goal.returns
returns c =
    let folded : c.fold.result ≡ fold (λ s x. s ⊕ x) (of_bits binary64 0) c.args.xs.now = grind (arith, common_steps) in
    folded ∙ total-folded c.args.xs.now
