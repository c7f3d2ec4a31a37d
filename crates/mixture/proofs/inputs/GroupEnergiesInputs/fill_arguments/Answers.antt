-- The same of each entry of the row.
use Rattle.arithmetic.proofs.TableLaws.{filled_as}
use Rattle.mixture.proofs.InputLaws.{group_row}
use Rattle.mixture.proofs.inputs.GroupEnergiesInputs.fill_arguments.Goals as goal

pub returns : goal.returns
returns c = let s = c.args.self in filled_as (λ j b. group_row s.w s.stride s.entries.now s.t s.ln c.args.i j c.requires.0 b s.full) c.fill_arguments.ensures
