-- Place j·5 of the part from row i on is place i·stride + j·5 of the entries.
use Rattle.std.proofs.Common.{◌∙◌, ap}
use Rattle.arithmetic.specs.Exponential.{exp_of}
use Rattle.models.specs.Steps.Unifac.{psi_by}
use Rattle.mixture.proofs.InputLaws.{group_row}
use Rattle.mixture.proofs.inputs.GroupEnergiesInputs.exponential.Goals as goal

pub returns : goal.returns
unfolding psi_by
returns c = let s = c.args.self in c.psi.ensures ∙ ap exp_of (group_row s.w s.stride s.entries.now s.t s.ln c.args.i c.args.j c.requires.0 c.requires.1 s.full)
