use Rattle.std.proofs.Common.{◌∙◌}
use lib.Ieee.{of_bits, round}
use Rattle.arithmetic.specs.Floats.{one, dec}
use Rattle.arithmetic.specs.Tables.{at}
use Rattle.models.proofs.UnifacLaws.{row-lent}
use Rattle.models.proofs.unifac.terms.Mixture.group_gamma.Goals as goal

pub returns : goal.returns
unfolding one dec round of_bits
returns c =
    let a = c.args.self.now in
    rw (c.row_sum.ensures ∙ row-lent a.lists.ng (at c.args.theta.now) (at c.args.sums.now) a.psi.now c.args.k c.requires.0 a.square)
