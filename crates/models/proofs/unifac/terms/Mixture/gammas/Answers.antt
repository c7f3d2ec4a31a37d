use Rattle.std.proofs.Common.{◌∙◌, refl, arith}
use Rattle.arithmetic.proofs.TableLaws.{filled-less, filling_none, filling_more, filling_done, upto_below}
use Rattle.models.proofs.ColumnLaws.{zeros}
use Rattle.models.proofs.UnifacLaws.{group_hoisted}
use Rattle.models.proofs.unifac.terms.Mixture.gammas.Goals as goal

pub column_sums-requires : goal.column_sums-requires
column_sums-requires c = let few = c.args.self.now.few_groups in (c.requires.0, few, filled-less few (zeros 32))

pub loop-k-init : goal.loop-k-init
loop-k-init c = filling_none c.requires.1 refl

pub loop-k-preserved : goal.loop-k-preserved
loop-k-preserved c =
    let b = c.loop-k-test.true in
    let sums = c.column_sums in
    let log = c.log_each.ensures.each c.loop-k.k (omega (arith, sums.auto.sums, c.args.self.now.few_groups)) ∙ upto_below _ _ _ _ b in
    filling_more b c.loop-k.invariant (group_hoisted _ _ _ _ _ b sums.ensures log c.group_gamma.ensures)

pub returns : goal.returns
returns c = filling_done c.loop-k-test.false c.loop-k.invariant
