use Rattle.std.proofs.Common.{◌<◌, arith}
use Rattle.arithmetic.proofs.TableLaws.{filled-less}
use Rattle.models.proofs.ColumnLaws.{zeros}
use Rattle.models.proofs.GroupListLaws.{named_none, named_more, named-done}
use Rattle.models.proofs.UnifacLaws.{group_hoisted}
use Rattle.models.proofs.unifac.terms.Mixture.gammas_of.Goals as goal

pub column_sums-requires : goal.column_sums-requires
column_sums-requires c = let few = c.args.self.now.few_groups in (c.requires.1, few, filled-less few (zeros 32))

pub loop-g-init : goal.loop-g-init
loop-g-init c = named_none _ _ _

pub loop-g-preserved : goal.loop-g-preserved
loop-g-preserved c =
    let l = c.args.list.now in
    let k = c.from-k in
    let below : k.result < c.args.self.now.lists.ng = omega (arith, l.paired.below c.loop-g.g-index c.loop-g-test.true, k.ensures, c.requires.0) in
    named_more _ _ c.loop-g.g-index _ k.ensures (omega (arith, below, c.loop-g.auto.out, c.requires.2))
    (group_hoisted _ _ _ _ _ below c.column_sums.ensures c.log-log.ensures c.group_gamma.ensures) c.loop-g.invariant

pub returns : goal.returns
returns c = named-done _ _ _ _ c.loop-g.auto.g-index-end c.loop-g-test.false c.loop-g.invariant
