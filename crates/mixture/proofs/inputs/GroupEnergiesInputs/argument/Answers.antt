-- Place j·5 of the part from row i on is place i·stride + j·5 of the entries.
use Rattle.std.proofs.Common.{◌∙◌}
use Rattle.mixture.proofs.InputLaws.{group_row}
use Rattle.mixture.proofs.inputs.GroupEnergiesInputs.argument.Goals as goal

pub returns : goal.returns
returns c = let s = c.args.self in c.argument.ensures ∙ group_row s.w s.stride s.entries.now s.t s.ln c.args.i c.args.j c.requires.0 c.requires.1 s.full
