use Rattle.std.proofs.Common.{◌∙◌}
use Rattle.models.specs.Exponentials.{energy}
use Rattle.models.proofs.exponentials.energy.Goals as goal

pub returns : goal.returns
unfolding energy
returns c = c.exp.ensures ∙ rw c.argument.ensures
