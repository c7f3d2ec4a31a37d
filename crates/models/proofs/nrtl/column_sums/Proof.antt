-- Each turn adds one row to every numerator and every denominator; at the end the rows are all.
use mathlib.Core.Path.{refl}
use Prim.Native.Nat.{◌+◌, ◌*◌, ◌-◌, ◌≤◌}
use native.Mathlib.Nat.{le_trans}
use native.Mathlib.Omega.{arith}
use lib.ListN.{length}
use Rattle.arithmetic.specs.Floats.{◌⊗◌}
use Rattle.arithmetic.specs.Tables.{at, grid}
use Rattle.arithmetic.proofs.TableLaws.{row-end, from-room}
use Rattle.models.specs.Columns.{unit_diagonal, column_sum}
use Rattle.models.specs.Nrtl.{numerator}
use Rattle.models.specs.Nrtl as Nrtl
use Rattle.models.proofs.ColumnLaws.{Columns, columns-room, columns-none, columns-more, columns-done, unit_row}
use Rattle.models.proofs.NrtlLaws.{tau-row}
use Rattle.models.proofs.nrtl.column_sums.Statement.{statement}
use Rattle.models.proofs.nrtl.column_sums.Tie as tie

abbrev invariant-loop-i : tie.invariant-loop-i
invariant-loop-i n tau g x u₀ d₀ i₀ u d i =
    Columns (λ m j. at x m ⊗ unit_diagonal (grid n g) m j ⊗ Nrtl.tau (grid n tau) m j) n (length u₀) i u × Columns (λ m j. at x m ⊗ unit_diagonal (grid n g) m j) n (length d₀) i d

abbrev decreases-loop-i : tie.decreases-loop-i
decreases-loop-i n tau g x u₀ d₀ i₀ u d i = n - i

abbrev entry : tie.In-loop-i invariant-loop-i decreases-loop-i → tie.Start invariant-loop-i decreases-loop-i
entry c = c.before.before.before.before.before.before.before

-- row i ends within both tables
ends : (c : tie.In-loop-i invariant-loop-i decreases-loop-i) → (c.loop-i.i * (entry c).args.n + (entry c).args.n ≤ length (entry c).args.tau.now) × (c.loop-i.i * (entry c).args.n + (entry c).args.n ≤ length (entry c).args.g.now)
ends c =
    let row = row-end (entry c).args.n (entry c).args.n c.loop-i.i c.loop-i-test.true in
    (le_trans row (entry c).requires.0.taus, le_trans row (entry c).requires.0.table)

loop-i-init : tie.Need-loop-i-init invariant-loop-i decreases-loop-i
loop-i-init c = let zeros = c.requires.1 in (columns-none zeros.sums.above refl zeros.none_above, columns-none zeros.sums.below refl zeros.none_below)

add_terms-requires : tie.Need-add_terms-requires invariant-loop-i decreases-loop-i
add_terms-requires c κs =
    let turn = c.before.before.before.before in
    let a = (entry turn).args in
    let g-row = from-room (c.loop-i.i * a.n) _ a.g.now (ends turn).1 in
    let tau-row = from-room (c.loop-i.i * a.n) _ a.tau.now (ends turn).0 in
    (g-row, tau-row, c.loop-i-test.true, columns-room c.loop-i.invariant.0)

add_unit_row-requires : tie.Need-add_unit_row-requires invariant-loop-i decreases-loop-i
add_unit_row-requires c κs =
    let turn = c.before.before.before.before.before.before.before.before.before.before in
    let row = from-room (c.loop-i.i * (entry turn).args.n) _ (entry turn).args.g.now (ends turn).1 in
    (row, c.loop-i-test.true, columns-room c.loop-i.invariant.1)

loop-i-preserved : tie.Need-loop-i-preserved invariant-loop-i decreases-loop-i
loop-i-preserved c =
    let turn = c.before.before.before.before.before.before.before.before.before.before.before.before.before in
    let a = (entry turn).args in
    let i = c.loop-i.i in
    let inv = c.loop-i.invariant in
    let terms = c.add_terms in
    let row = c.add_unit_row in (
      columns-more _ c.loop-i-test.true
          (λ j b. rw (unit_row a.n a.g.now i j (ends turn).1 b, tau-row a.n a.tau.now i j (ends turn).0 b)) inv.0 terms.ensures terms.auto.sums,
      columns-more _ c.loop-i-test.true (λ j b. rw (unit_row a.n a.g.now i j (ends turn).1 b)) inv.1 row.ensures row.auto.sums,
    )

returns : tie.Need-returns invariant-loop-i decreases-loop-i
unfolding numerator column_sum
returns c = let inv = c.loop-i.invariant in (columns-done c.loop-i-test.false inv.0, columns-done c.loop-i-test.false inv.1)

pub column_sums_spec : {M : Type 1} → statement M
column_sums_spec =
    tie.close
    (tie.spec
    invariant-loop-i
    decreases-loop-i
    loop-i-init
    (λ c. omega (arith, (ends c).1))
    (λ c. omega arith)
    (λ c. omega arith)
    (λ c. omega (arith, (ends c.before).1))
    (λ c. omega (arith, (ends c.before).1))
    (λ c. omega (arith, (ends c.before).1))
    (λ c. omega arith)
    (λ c. omega (arith, (ends c.before.before).0))
    (λ c. omega (arith, (ends c.before.before).0))
    (λ c. omega (arith, (ends c.before.before).0))
    (λ c. omega arith)
    add_terms-requires
    (λ c. omega arith)
    (λ c. omega arith)
    (λ c. omega (arith, (ends c.before.before.before.before.before.before.before.before).1))
    (λ c. omega (arith, (ends c.before.before.before.before.before.before.before.before).1))
    (λ c. omega (arith, (ends c.before.before.before.before.before.before.before.before).1))
    (λ c. omega arith)
    add_unit_row-requires
    (λ c. omega arith)
    (λ c. omega arith)
    loop-i-preserved
    (λ c. c.loop-i.invariant.0.long)
    (λ c. c.loop-i.invariant.1.long)
    returns)
