-- What a step takes is stored, where there is room; at the end, and where a word is missing, nothing is ahead.
use Rattle.std.proofs.Common.{◌≡◌, None, rules, arith}
use Rattle.strip.proofs.GroupListLaws.{store_starts, store_ends, store_12, store_13, lists-few}
use Rattle.strip.proofs.lists.fill_lists.Goals as goal

pub loop-part-init : goal.loop-part-init
loop-part-init c = (omega arith, store_starts _ _ _ _ _ _)

pub overflow_add-met : goal.overflow_add-met
overflow_add-met c =
    let e = rw c.in-ListOf.is at (rw c.in-Ok-Some.field-0-is at c.in-Ok-Some.ensures) in
    let f = (store_12 c.loop-part.invariant.1 _ _ e.0 c.store.ensures).lists in
    omega (arith, f, (lists-few c.args.s.now c.args.n).lens c.args.at)

pub overflow_add-met-in-Group : goal.overflow_add-met-in-Group
overflow_add-met-in-Group c =
    let e = rw c.in-Group.is at (rw c.in-Ok-Some.field-0-is at c.in-Ok-Some.ensures) in
    omega (arith, e.1, e.2)

pub loop-part-preserved-in-ListOf : goal.loop-part-preserved-in-ListOf
loop-part-preserved-in-ListOf c =
    let e = rw c.in-ListOf.is at (rw c.in-Ok-Some.field-0-is at c.in-Ok-Some.ensures) in
    (omega (arith, e.1), store_12 c.loop-part.invariant.1 _ _ e.0 c.store.ensures)

pub loop-part-preserved : goal.loop-part-preserved
loop-part-preserved c =
    let e = rw c.in-Group.is at (rw c.in-Ok-Some.field-0-is at c.in-Ok-Some.ensures) in
    (omega (arith, e.1), store_13 c.loop-part.invariant.1 _ _ _ e.0 c.store-in-Group.ensures c.store-in-Group-2.ensures)

pub returns-in_default : goal.returns-in_default
returns-in_default c =
    let h : c.in_default.field-0 ≡ None = search rules in
    let e = rw (c.in_default.is, h) at c.next.ensures in
    store_ends c.loop-part.invariant.1 _ e.0

pub returns-in_default-2 : goal.returns-in_default-2
returns-in_default-2 c = store_ends c.loop-part.invariant.1 0 (rw c.in_default.is at c.next.ensures)
