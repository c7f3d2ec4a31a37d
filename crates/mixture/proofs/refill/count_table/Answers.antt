-- The marks other than 1, less those on the diagonal where that has no cells.
use Rattle.std.proofs.Common.{◌≡◌, ◌∙◌, sym, ◌+◌, arith}
use Rattle.mixture.specs.Steps.Refills.{table_count}
use Rattle.mixture.proofs.refill.FreshLaws.{table_all, table-apart}
use Rattle.mixture.proofs.refill.count_table.Goals as goal

pub returns-then-has_diagonal : goal.returns-then-has_diagonal
returns-then-has_diagonal g c =
    table_all c.args.marks.now c.rows-w.ensures.0 c.requires c.count_unmarked-count.ensures (sym c.has_diagonal.ensures ∙ c.if-has_diagonal.true)

apart : (g : _) (c : goal.After-count_diagonal g)
    → c.count_unmarked-count.result ≡ table_count g.I.Inputs.diagonal (g.I.Inputs.rows c.args.inputs) c.args.marks.now + c.count_diagonal.result
apart g c =
    table-apart c.args.marks.now c.rows-w.ensures.0 c.requires c.count_unmarked-count.ensures (sym c.has_diagonal.ensures ∙ c.if-has_diagonal.false)
    c.count_diagonal.ensures

pub overflow_sub-result : goal.overflow_sub-result
overflow_sub-result g c = omega (arith, apart g c)

pub returns : goal.returns
returns g c = omega (arith, apart g c)
