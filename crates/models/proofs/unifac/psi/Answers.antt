use Rattle.std.proofs.Common.{◌∙◌}
use Rattle.models.specs.Steps.Unifac.{psi_by}
use Rattle.models.proofs.unifac.psi.Goals as goal

pub returns : goal.returns
unfolding psi_by
returns c = c.exp.ensures ∙ rw c.argument.ensures
