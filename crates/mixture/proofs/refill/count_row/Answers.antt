-- The marks other than 1, less the diagonal's where that has no cell.
use Rattle.std.proofs.Common.{◌≡◌, ◌∙◌, sym, ◌+◌, arith}
use Rattle.mixture.specs.Steps.Refills.{row_count}
use Rattle.mixture.proofs.refill.FreshLaws.{row_all, row_but, row-less}
use Rattle.mixture.proofs.refill.count_row.Goals.{then-has_diagonal-via-then-has_diagonal, then-has_diagonal-via-else-has_diagonal+then-marks-i-eq-FRESH}
use Rattle.mixture.proofs.refill.count_row.Goals as goal

pub returns-then-has_diagonal : goal.returns-then-has_diagonal
returns-then-has_diagonal g c =
    let marks = c.args.marks.now in
    elim c.then-has_diagonal.branch [
      | then-has_diagonal-via-then-has_diagonal w ↦
          row_all marks c.rows.ensures.0 c.requires.0 c.requires.1 c.count_unmarked-count.ensures (sym c.has_diagonal.ensures ∙ w.if-has_diagonal.true)
      | then-has_diagonal-via-else-has_diagonal+then-marks-i-eq-FRESH w ↦
          row_but marks c.rows.ensures.0 c.requires.0 c.requires.1 c.count_unmarked-count.ensures (sym c.has_diagonal.ensures ∙ w.if-has_diagonal.false) w.if-marks-i-eq-FRESH.true
    ]

less : (g : _) (c : goal.Else-marks-i-eq-FRESH g) → c.count_unmarked-count.result ≡ row_count g.I.Inputs.diagonal (g.I.Inputs.rows c.args.inputs) c.args.marks.now c.args.i + 1
less g c =
    row-less c.args.marks.now c.rows.ensures.0 c.requires.0 c.requires.1 c.count_unmarked-count.ensures (sym c.has_diagonal.ensures ∙ c.if-has_diagonal.false)
    c.if-marks-i-eq-FRESH.false

pub overflow_sub-result : goal.overflow_sub-result
overflow_sub-result g c = omega (arith, less g c)

pub returns : goal.returns
returns g c = omega (arith, less g c)
