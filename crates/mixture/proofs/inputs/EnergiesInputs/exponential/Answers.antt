-- Place j of the part from row i on is place i·stride + j of the energies.
use Rattle.std.proofs.Common.{◌∙◌, ◌*◌, arith}
use Rattle.arithmetic.proofs.TableLaws.{from_at}
use Rattle.models.specs.Exponentials.{energy}
use Rattle.mixture.proofs.InputLaws.{row_ends}
use Rattle.mixture.proofs.inputs.EnergiesInputs.exponential.Goals as goal

pub returns : goal.returns
unfolding energy
returns c =
    let s = c.args.self in
    let i = c.args.i in
    let end = row_ends s.stride s.w c.requires.0 s.full in
    let at_j = from_at s.a.now (i * s.stride) c.args.j (omega (arith, end, c.requires.1)) in
    let at_i = from_at s.a.now (i * s.stride) i (omega (arith, end, c.requires.0)) in
    c.energy.ensures ∙ rw (at_j, at_i)
