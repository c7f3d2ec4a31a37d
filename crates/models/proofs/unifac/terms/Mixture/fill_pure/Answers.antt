-- A row comes back in the middle of the table.
use Rattle.std.proofs.Common.{◌*◌, arith}
use Rattle.arithmetic.proofs.TableLaws.{row-end, from-length}
use Rattle.models.proofs.UnifacLaws.{listed_same, pure-own, rows_more}
use Rattle.models.proofs.unifac.terms.Mixture.fill_pure.Goals as goal

pub loop-i-preserved : goal.loop-i-preserved
loop-i-preserved c =
    let a = c.args.self.now in
    let ng = a.lists.ng in
    let i = c.loop-i.i in
    let table = c.loop-i.table in
    let ends = row-end c.args.last ng i c.loop-i-test.true in
    let long = c.loop-i.auto.table in
    let out = c.pure_gammas in (
      omega arith,
      rows_more _ i ng _ _ table _ _ (omega (arith, ends, long, c.requires.1)) (omega (arith, ends, long, c.requires.1, out.auto.out, from-length (i * ng) table))
          (λ j p h. (listed_same a.lists.listed j (omega (arith, c.loop-i-test.true, c.requires.0))).below p) c.loop-i.invariant.1
          (pure-own _ _ c.list-list.ensures.same _ _ out.ensures),
    )

pub returns : goal.returns
returns c = record { each = λ i a b. c.loop-i.invariant.1.each i a (omega (arith, c.loop-i-test.false)) }
