-- A turn writes its mark, or skips it.
use Rattle.std.proofs.Common.{◌≡◌, ◌+◌, arith}
use Rattle.mixture.proofs.ListLaws.{written_none}
use Rattle.mixture.proofs.stale.StaleLaws.{row_write, row_keep, row-none, on_diagonal, off_diagonal, no_cell}
use Rattle.mixture.proofs.stale.stale_row.Goals.{then-diagonal, then-diagonal-via-then-diagonal, then-diagonal-via-else-diagonal+then-i-j, else-diagonal+else-i-j}
use Rattle.mixture.proofs.stale.stale_row.Goals as goal

pub loop-j-init : goal.loop-j-init
loop-j-init c = written_none _ _ _ (row-none _ _ _ _ _ (omega arith))

pub loop-j-preserved : goal.loop-j-preserved
loop-j-preserved c =
    elim c.if-diagonal.branch [
      | then-diagonal w ↦
          row_write _ _ _ _ _ _ c.loop-j.invariant (omega arith)
          (elim w.then-diagonal.branch [
            | then-diagonal-via-then-diagonal v ↦ on_diagonal _ _ _ v.if-diagonal.true
            | then-diagonal-via-else-diagonal+then-i-j v ↦ off_diagonal _ _ _ v.if-i-j.true
          ])
          w.marks-is
      | else-diagonal+else-i-j w ↦ row_keep _ _ _ _ _ _ c.loop-j.invariant (no_cell _ _ _ w.if-diagonal.false w.if-i-j.false) w.marks-is
    ]

pub returns : goal.returns
returns c = let e : c.loop-j.j ≡ c.args.block.left + c.args.block.columns = omega arith in rw (← e) c.loop-j.invariant
