-- The last row's entries are back from the diagonal, with their exps.
use Rattle.std.proofs.Common.{arith}
use Rattle.mixture.proofs.RefillLaws.{last_row}
use Rattle.mixture.proofs.refill.GatherLaws.{exp_off}
use Rattle.mixture.proofs.refill.exp_off_diagonal.Goals as goal

pub returns : goal.returns
returns c = exp_off c.args.w (omega (arith, last_row c.args.w)) c.swap_last.ensures (rw c.requires.1 at c.exp_each.ensures) c.swap_last-2.ensures
