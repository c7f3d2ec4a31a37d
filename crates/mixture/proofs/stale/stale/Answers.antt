-- A turn writes its row.
use Rattle.std.proofs.Common.{◌≡◌, ◌+◌, arith}
use Rattle.mixture.proofs.stale.StaleLaws.{stale_none, stale_turn, block-is}
use Rattle.mixture.proofs.stale.stale.Goals as goal

pub loop-i-init : goal.loop-i-init
loop-i-init c = let b = c.args.block in stale_none c.args.w c.args.diagonal b.top b.left (b.left + b.columns) _

pub loop-i-preserved : goal.loop-i-preserved
loop-i-preserved c =
    let b = c.args.block in
    stale_turn c.args.w c.args.diagonal b.top b.left (b.left + b.columns) c.loop-i.i c.requires.some c.requires.columns (omega arith) _ _ c.loop-i.invariant
    c.stale_row.ensures

pub returns : goal.returns
returns c =
    let b = c.args.block in
    let e : c.loop-i.i ≡ b.top + b.rows = omega arith in block-is _ _ b _ (rw (← e) c.loop-i.invariant)
