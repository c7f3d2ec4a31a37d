-- A turn takes its cell where that is stale, by what the mark says, which is still the old one.
use Rattle.std.proofs.Common.{sym, ◌∙◌, ◌≤◌, arith}
use Rattle.mixture.proofs.ListLaws.{how_many-le}
use Rattle.mixture.proofs.RefillLaws.{row_none, row_more, row_skip, row_told, row_done}
use Rattle.mixture.proofs.refill.fill_stale.Goals.{then-is_stale, else-is_stale}
use Rattle.mixture.proofs.refill.fill_stale.Goals as goal

pub loop-j-init : goal.loop-j-init
loop-j-init g c = row_none

pub value-requires : goal.value-requires
value-requires g c =
    let few : c.loop-j.count ≤ c.loop-j.j = rw c.loop-j.invariant.counted (how_many-le _ _) in
    c.requires.asked _ _ (omega arith) few

pub overflow_add-count : goal.overflow_add-count
overflow_add-count g c =
    let few : c.loop-j.count ≤ c.loop-j.j = rw c.loop-j.invariant.counted (how_many-le _ _) in
    omega arith

pub loop-j-preserved : goal.loop-j-preserved
loop-j-preserved g c =
    let so = c.loop-j.invariant in
    let told = rw c.has_diagonal.ensures at c.is_stale.ensures in
    elim c.if-is_stale.branch [
      | then-is_stale w ↦
          row_more so told w.if-is_stale.true
          (λ f fits. fits _ _ (omega arith) (sym (row_told so told) ∙ w.if-is_stale.true) (rw (← so.counted) w.value.ensures))
          w.cells-is w.marks-is w.count-is
      | else-is_stale w ↦ row_skip so told w.if-is_stale.false w.cells-is w.marks-is w.count-is
    ]

pub returns : goal.returns
returns g c f fits = row_done (omega arith) (omega arith) c.loop-j.invariant f fits
