-- A turn reads a field, and leaves with the first fault.
use Rattle.std.proofs.Common.{refl, sym, ◌∙◌, arith}
use Rattle.arithmetic.specs.Refusals.{Refused, number, number_of, answer_of}
use Rattle.arithmetic.proofs.RefusalLaws.{value-of}
use Rattle.models.proofs.AnswerLaws.{refused-on}
use Rattle.models.proofs.suppliers.Turns.{Turn, none_read, turn_refuses, turn_cut, turn-other, turn_on, surplus, all_read, all-values}
use Rattle.models.proofs.suppliers.read_fields.Goals as goal
use Rattle.models.proofs.suppliers.read_fields.Goals.{then-end-text-via-then-end-text, then-end-text-via-else-end-text+then-text-end}

pub loop-k-init : goal.loop-k-init
loop-k-init c = (omega arith, none_read _ _ _)

pub returns-in_err-v-clause-refused : goal.returns-in_err-v-clause-refused
unfolding answer_of number_of
returns-in_err-v-clause-refused c =
    let t : Turn c.args.n c.args.text.now c.loop-k.entries c.loop-k.k c.loop-k.at c.field_end-end.result (Refused (number c.in_err-v.field-0.0)) =
    record { left = c.loop-k.invariant.1; within = omega arith; stops = c.field_end-end.ensures.0; reads = c.in_err-v.ensures } in
    refused-on c.from_residual.result c.in_err-v.was (rw c.in_err-v.was (turn_refuses t refl).0) c.from_residual.ensures.1

pub returns-then-end-text-clause-refused : goal.returns-then-end-text-clause-refused
unfolding number number_of
returns-then-end-text-clause-refused c =
    let t : Turn c.args.n c.args.text.now c.loop-k.entries c.loop-k.k c.loop-k.at c.field_end-end.result (answer_of c.read.result) =
    record { left = c.loop-k.invariant.1; within = omega arith; stops = c.field_end-end.ensures.0; reads = c.read.ensures } in
    elim c.then-end-text.branch [
      | then-end-text-via-then-end-text w ↦ turn_cut t (value-of c.in_ok-v.was) (omega arith)
      | then-end-text-via-else-end-text+then-text-end w ↦
          turn-other t (value-of c.in_ok-v.was) (λ q. w.if-text-end.true (q ∙ sym w.separator.ensures))
    ]

pub loop-k-preserved : goal.loop-k-preserved
loop-k-preserved c =
    let t : Turn c.args.n c.args.text.now c.loop-k.entries c.loop-k.k c.loop-k.at c.field_end-end.result (answer_of c.read.result) =
    record { left = c.loop-k.invariant.1; within = omega arith; stops = c.field_end-end.ensures.0; reads = c.read.ensures } in (
      omega arith,
      turn_on t (value-of c.in_ok-v.was) (c.if-text-end.false ∙ c.separator.ensures) (omega (arith, c.loop-k.auto.entries, c.requires.2)),
    )

pub returns-then-at-text-clause-refused : goal.returns-then-at-text-clause-refused
unfolding number number_of
returns-then-at-text-clause-refused c = surplus c.loop-k.invariant.1 (omega arith) (omega arith)

pub returns-clause-refused : goal.returns-clause-refused
unfolding number_of
returns-clause-refused c = all_read c.loop-k.invariant.1 (omega arith) (omega arith)

pub returns-clause-passed : goal.returns-clause-passed
returns-clause-passed c = all-values c.loop-k.invariant.1 (omega arith)
