use Rattle.std.proofs.Common.{◌^◌, ◌<◌, arith, get_or}
use Rattle.arithmetic.proofs.decimals.Texts.{digit_lt, valued-none, valued-more, valued-room}
use Rattle.arithmetic.proofs.decimals.valued.Goals as goal

pub loop-b-init : goal.loop-b-init
loop-b-init c = valued-none c.args.a c.args.s.now

pub overflow_mul-v : goal.overflow_mul-v
overflow_mul-v c =
    let l : c.loop-b.v < 10 ^ 15 = rw c.loop-b.invariant (valued-room c.args.a c.args.s.now c.loop-b.b-index (omega arith) c.requires) in omega arith

pub overflow_add-v : goal.overflow_add-v
overflow_add-v c =
    let l : c.loop-b.v < 10 ^ 15 = rw c.loop-b.invariant (valued-room c.args.a c.args.s.now c.loop-b.b-index (omega arith) c.requires) in
    let d : c.digit.result < 10 = rw c.digit.ensures (digit_lt (get_or c.args.s.now c.loop-b.b-index 0)) in
    omega arith

pub loop-b-preserved : goal.loop-b-preserved
loop-b-preserved c = valued-more c.args.a c.args.s.now c.loop-b.b-index (omega arith) c.loop-b.invariant c.digit.ensures
