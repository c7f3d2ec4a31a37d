use Rattle.std.proofs.Common.{arith, length-set}
use Rattle.models.proofs.ColumnLaws.{total-sum}
use Rattle.models.proofs.TermLaws.{own_put}
use Rattle.models.proofs.terms.sum_with_own.Goals as goal

pub returns : goal.returns
returns g c =
    λ t gives.
    let all = own_put c.args.n c.args.i c.args.own t (omega (arith, c.fill.auto.out, c.requires.few, c.requires.place)) (c.fill.ensures t gives) in
    total-sum c.args.n _ _ (simp length-set (omega (arith, c.fill.auto.out, c.requires.few))) all c.sum.ensures
