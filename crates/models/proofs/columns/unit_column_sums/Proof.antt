-- Row after row is added: before each turn every sum has the terms of the rows passed.
use mathlib.Core.Path.{refl, ap}
use Prim.Native.Nat.{◌+◌, ◌*◌, ◌-◌, ◌≤◌}
use native.Mathlib.Omega.{arith}
use lib.ListN.{length}
use lib.Ieee.{Float}
use Rattle.arithmetic.specs.Floats.{◌⊗◌}
use Rattle.arithmetic.specs.Tables.{at, grid}
use Rattle.arithmetic.proofs.TableLaws.{row-end, from-room}
use Rattle.models.specs.Columns.{unit_diagonal, column_sum}
use Rattle.models.proofs.ColumnLaws.{Columns, columns-room, columns-none, columns-more, columns-done, unit_row}
use Rattle.models.proofs.columns.unit_column_sums.Statement.{statement}
use Rattle.models.proofs.columns.unit_column_sums.Tie as tie

abbrev invariant-loop-i : tie.invariant-loop-i
invariant-loop-i n table w sums₀ i₀ sums i = Columns (λ k j. at w k ⊗ unit_diagonal (grid n table) k j) n (length sums₀) i sums

abbrev decreases-loop-i : tie.decreases-loop-i
decreases-loop-i n table w sums₀ i₀ sums i = n - i

abbrev entry : tie.In-loop-i invariant-loop-i decreases-loop-i → tie.Start invariant-loop-i decreases-loop-i
entry c = c.before.before.before.before.before

-- row i ends within the table
ends : (c : tie.In-loop-i invariant-loop-i decreases-loop-i) → c.loop-i.i * (entry c).args.n + (entry c).args.n ≤ length (entry c).args.table.now
ends c = omega (arith, row-end (entry c).args.n (entry c).args.n c.loop-i.i c.loop-i-test.true)

add_unit_row-requires : tie.Need-add_unit_row-requires invariant-loop-i decreases-loop-i
add_unit_row-requires c κs =
    let turn = c.before.before.before in
    let row = from-room (c.loop-i.i * (entry turn).args.n) _ (entry turn).args.table.now (ends turn) in
    (row, c.loop-i-test.true, columns-room c.loop-i.invariant)

loop-i-preserved : tie.Need-loop-i-preserved invariant-loop-i decreases-loop-i
loop-i-preserved c =
    let turn = c.before.before.before.before.before.before in
    let a = c.args in
    columns-more _ c.loop-i-test.true
    (λ j b. ap (λ (v : Float). at a.w.now c.loop-i.i ⊗ v) (unit_row a.n a.table.now c.loop-i.i j (ends turn) b)) c.loop-i.invariant
    c.add_unit_row.ensures c.add_unit_row.auto.sums

returns : tie.Need-returns invariant-loop-i decreases-loop-i
unfolding column_sum
returns c = columns-done c.loop-i-test.false c.loop-i.invariant

pub unit_column_sums_spec : {M : Type 1} → statement M
unit_column_sums_spec =
    tie.close
    (tie.spec
    invariant-loop-i
    decreases-loop-i
    (λ c. columns-none (omega arith) refl c.requires.3)
    (λ c. omega (arith, ends c))
    (λ c. omega arith)
    (λ c. omega arith)
    (λ c. omega (arith, ends c.before))
    (λ c. omega (arith, ends c.before))
    (λ c. omega (arith, ends c.before))
    (λ c. omega arith)
    add_unit_row-requires
    (λ c. omega arith)
    (λ c. omega arith)
    loop-i-preserved
    (λ c. c.loop-i.invariant.long)
    returns)
