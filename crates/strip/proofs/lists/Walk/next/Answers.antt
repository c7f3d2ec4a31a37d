-- A step takes what stands first of what is ahead.
use Rattle.std.proofs.Common.{◌+◌, ◌-◌, ◌≤◌, length, arith, refl}
use Rattle.strip.proofs.GroupListLaws.{word_in, no_more, no_12, one_12, no_13, one_13, stops}
use Rattle.strip.proofs.lists.Walk.next.Goals as goal

in_13 : (c : goal.In_ok-group) → c.args.self.now.place + 12 ≤ length c.args.s.now
in_13 c = word_in _ 13 12 _ c.in_ok-group.ensures.0

pub returns-in_err-group : goal.returns-in_err-group
returns-in_err-group c = stops _ _ _ _ c.from_residual.ensures.0 (no_13 _ _ _ c.if-self-ne0.true c.in_err-group.ensures)

pub overflow_add-self : goal.overflow_add-self
overflow_add-self c = omega (arith, in_13 c)

pub float_at-count-requires : goal.float_at-count-requires
float_at-count-requires c = omega (arith, in_13 c)

pub overflow_add-self-then-self-ne0 : goal.overflow_add-self-then-self-ne0
overflow_add-self-then-self-ne0 c = omega (arith, word_in c.args.s.now 13 12 c.args.self.now.place c.in_ok-group.ensures.0)

pub returns-then-self-ne0 : goal.returns-then-self-ne0
returns-then-self-ne0 c =
    let f = c.in_ok-group.ensures in
    (one_13 _ _ _ c.if-self-ne0.true f.0 f.1 c.float_at-count.ensures, refl, word_in _ 13 12 _ f.0)

pub returns-then-self-eq0 : goal.returns-then-self-eq0
returns-then-self-eq0 c = (no_more _ _ _ c.if-self-ne0.false c.if-self-eq0.true, refl)

pub returns-in_err-size : goal.returns-in_err-size
returns-in_err-size c =
    stops _ _ _ _ c.from_residual-in_err-size.ensures.0 (no_12 _ _ _ c.if-self-ne0.false (c.args.self.now.lists - 1) (omega (arith, c.if-self-eq0.false)) c.in_err-size.ensures)

pub overflow_add-self-2 : goal.overflow_add-self-2
overflow_add-self-2 c = omega (arith, word_in c.args.s.now 12 4 c.args.self.now.place c.in_ok-size.ensures.0)

pub returns : goal.returns
returns c =
    let f = c.in_ok-size.ensures in
    (one_12 _ _ _ c.if-self-ne0.false (c.args.self.now.lists - 1) (omega (arith, c.if-self-eq0.false)) f.0 f.1, refl, word_in _ 12 4 _ f.0)
