-- The first place at fault: no place passed is, and the next one decides, 3 before 4.
use mathlib.Core.Path.{◌≡◌, ◌∙◌}
use mathlib.Core.Bool.{true, false}
use mathlib.Core.List.{List}
use Prim.Native.Nat.{ℕ, ◌<◌, ◌≤◌, min}
use native.Mathlib.Omega.{arith}
use lib.Ieee.{Float, lt}
use lib.ListN.{get_or}
use lib.Ieee.{of_bits}
use borrow.Author.Count.{below_more}
use borrow.Author.Tests.{lt-ltb, le-ltb}
use Rattle.std.proofs.lemmas.List.{length_push}
use Rattle.std.proofs.lemmas.Slice.Zip.{zip_turn, zip_end}
use Rattle.arithmetic.specs.Floats.{+0}
use Rattle.arithmetic.specs.Refusals.{number, number_of}
use Rattle.arithmetic.specs.Tables.{at}
use Rattle.models.specs.Faults.{place_fault, groups_fault}
use Rattle.models.proofs.AnswerLaws.{first-none, first_more, first_found}
use Rattle.models.proofs.faults.groups_fault.Goals as goal

-- what the tests of place p show, from its group g and its count v
module _ (ng : ℕ) (groups : List ℕ) (counts : List Float) (p : ℕ) {g : ℕ} (is : g ≡ get_or groups p 0) where
  group-fault : ng ≤ g → 3 ≡ place_fault ng groups counts p
  unfolding place_fault
  group-fault h = rw (← is, le-ltb g ng h)

  module _ {v : Float} (counted : v ≡ at counts p) (below : g < ng) where
    count-fault : lt v +0 ≡ true → 4 ≡ place_fault ng groups counts p
    unfolding place_fault
    count-fault e = rw (← is, ← counted, lt-ltb g ng below, e)

    no-fault : lt v +0 ≡ false → 0 ≡ place_fault ng groups counts p
    unfolding place_fault
    no-fault e = rw (← is, ← counted, lt-ltb g ng below, e)

pub loop-group-init : goal.loop-group-init
loop-group-init c = (first-none _, λ k h. absurd (omega arith))

pub returns-then-ng-from-clause-refused : goal.returns-then-ng-from-clause-refused
unfolding groups_fault number number_of
returns-then-ng-from-clause-refused c =
    let t = zip_turn c.args.groups.now c.args.counts.now c.loop-group.yielded c.into_iter-group-iterator.result c.loop-group.group-iterator c.next.new.self c.next.result (cc) (cc) c.loop-group.yielded_by _ c.in-Some.is c.next.ensures.steps in
    first_found _ _ _ t.0 c.loop-group.invariant.0 (group-fault _ _ _ _ (c.from.ensures ∙ t.2 0) c.if-ng-from.true) (λ e. omega arith)

pub returns-then-count-clause-refused : goal.returns-then-count-clause-refused
unfolding groups_fault number number_of of_bits
returns-then-count-clause-refused c =
    let t = zip_turn c.args.groups.now c.args.counts.now c.loop-group.yielded c.into_iter-group-iterator.result c.loop-group.group-iterator c.next.new.self c.next.result (cc) (cc) c.loop-group.yielded_by _ c.in-Some.is c.next.ensures.steps in
    first_found _ _ _ t.0 c.loop-group.invariant.0 (count-fault _ _ _ _ (c.from.ensures ∙ t.2 0) (t.3 _) c.if-ng-from.false c.if-count.true) (λ e. omega arith)

pub loop-group-preserved : goal.loop-group-preserved
unfolding of_bits
loop-group-preserved c =
    let t = zip_turn c.args.groups.now c.args.counts.now c.loop-group.yielded c.into_iter-group-iterator.result c.loop-group.group-iterator c.next.new.self c.next.result (cc) (cc) c.loop-group.yielded_by _ c.in-Some.is c.next.ensures.steps in
    let n = length_push c.loop-group.yielded (c.in-Some.group, c.in-Some.count) in
    let here = c.from.ensures ∙ t.2 0 in
    rw n
    (first_more _ _ c.loop-group.invariant.0 (no-fault _ _ _ _ here (t.3 _) c.if-ng-from.false c.if-count.false), below_more _ _ c.loop-group.invariant.1 (omega (arith, here, c.if-ng-from.false)))

-- every place was looked at
all : {n a b : ℕ} → n ≡ min a b → a ≤ b → n ≡ a
all e h = omega arith

pub returns-clause-refused : goal.returns-clause-refused
unfolding groups_fault number_of
returns-clause-refused c =
    let e = zip_end c.args.groups.now c.args.counts.now c.loop-group.yielded c.into_iter-group-iterator.result c.loop-group.group-iterator c.next.new.self c.next.result (cc) (cc) c.loop-group.yielded_by c.in-None.is c.next.ensures.steps in
    rw (all e c.requires) at c.loop-group.invariant.0
