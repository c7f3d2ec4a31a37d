use Rattle.std.proofs.Common.{◌*◌, ap, refl, arith}
use lib.Ieee.{Float}
use Rattle.arithmetic.specs.Floats.{◌⊗◌}
use Rattle.arithmetic.specs.Tables.{at}
use Rattle.arithmetic.proofs.TableLaws.{row-end, from_at}
use Rattle.models.specs.Columns.{column_sum}
use Rattle.models.proofs.ColumnLaws.{columns-none, columns-more, columns-done}
use Rattle.models.proofs.unifac.terms.Mixture.column_sums.Goals as goal

pub loop-m-init : goal.loop-m-init
loop-m-init c = columns-none c.requires.1 refl c.requires.2

pub loop-m-preserved : goal.loop-m-preserved
loop-m-preserved c =
    let a = c.args.self.now in
    let ng = a.lists.ng in
    columns-more _ c.loop-m-test.true
    (λ j b. ap (λ (v : Float). at c.args.theta.now c.loop-m.m ⊗ v) (from_at a.psi.now (c.loop-m.m * ng) j (omega (arith, a.square, row-end ng ng c.loop-m.m c.loop-m-test.true))))
    c.loop-m.invariant c.add_row.ensures c.add_row.auto.sums

pub returns : goal.returns
unfolding column_sum
returns c = columns-done c.loop-m-test.false c.loop-m.invariant
