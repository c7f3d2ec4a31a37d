use Rattle.models.specs.Steps.Unifac.{combinatorial_from}
use Rattle.models.proofs.unifac.terms.Shared.combinatorial.Goals as goal

pub returns : goal.returns
unfolding combinatorial_from
returns c = c.combinatorial.ensures
