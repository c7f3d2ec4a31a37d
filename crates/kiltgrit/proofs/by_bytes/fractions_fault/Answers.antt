-- The first of 14, 5, 6 and 7, by the laws on fractions in bytes; fractions that pass are whole eights, n of them.
use Rattle.std.proofs.Common.{refl, sym, ◌∙◌, arith, eq-eqb, ne_eqb}
use Rattle.arithmetic.specs.Refusals.{number, number_of}
use Rattle.arithmetic.proofs.RefusalLaws.{refused-number, passed-number}
use Rattle.models.proofs.AnswerLaws.{refused-on}
use Rattle.kiltgrit.proofs.by_bytes.ExportLaws.{eights_wide, eights_empty, eights_off, eights_length, eights_index, eights_rest}
use Rattle.kiltgrit.proofs.by_bytes.fractions_fault.Goals as goal

pub returns-in_err-tolerance_fault-clause-refused : goal.returns-in_err-tolerance_fault-clause-refused
returns-in_err-tolerance_fault-clause-refused c =
    refused-on _ c.in_err-tolerance_fault.was refl c.from_residual.ensures.1
    ∙ eights_wide _ _ _ _ _ c.tolerance_fault.ensures (refused-number c.in_err-tolerance_fault.was)

pub returns-then-x-lt8-clause-refused : goal.returns-then-x-lt8-clause-refused
unfolding number_of number
returns-then-x-lt8-clause-refused c =
    eights_empty _ _ _ _ _ c.tolerance_fault.ensures (passed-number c.in_ok-tolerance_fault.was) c.if-x-lt8.true

pub returns-in_err-sum_fault-clause-refused : goal.returns-in_err-sum_fault-clause-refused
returns-in_err-sum_fault-clause-refused c =
    refused-on _ c.in_err-sum_fault.was refl c.from_residual-in_err-sum_fault.ensures.1
    ∙ eights_off _ _ _ _ _ c.tolerance_fault.ensures (passed-number c.in_ok-tolerance_fault.was) (omega arith) c.sum_floats.ensures c.sum_fault.ensures (refused-number c.in_err-sum_fault.was)

pub returns-then-x-n-clause-refused : goal.returns-then-x-n-clause-refused
unfolding number_of number
returns-then-x-n-clause-refused c =
    eights_length _ _ _ _ _ c.tolerance_fault.ensures (passed-number c.in_ok-tolerance_fault.was) (omega arith) c.sum_floats.ensures c.sum_fault.ensures (passed-number c.in_ok-sum_fault.was) c.if-x-n.true

pub returns-in_err-index_fault-clause-refused : goal.returns-in_err-index_fault-clause-refused
returns-in_err-index_fault-clause-refused c =
    refused-on _ c.in_err-index_fault.was refl c.from_residual-in_err-index_fault.ensures.1
    ∙ eights_index _ _ _ _ _ c.tolerance_fault.ensures (passed-number c.in_ok-tolerance_fault.was) (omega arith) c.sum_floats.ensures c.sum_fault.ensures (passed-number c.in_ok-sum_fault.was) c.if-x-n.false c.index_fault.ensures (refused-number c.in_err-index_fault.was)

pub returns-then-x-ne0-clause-refused : goal.returns-then-x-ne0-clause-refused
unfolding number_of number
returns-then-x-ne0-clause-refused c =
    eights_rest _ _ _ _ _ c.tolerance_fault.ensures (passed-number c.in_ok-tolerance_fault.was) (omega arith) c.sum_floats.ensures c.sum_fault.ensures (passed-number c.in_ok-sum_fault.was) c.if-x-n.false c.index_fault.ensures (passed-number c.in_ok-index_fault.was)
    (rw (ne_eqb _ _ c.if-x-ne0.true))

pub returns-clause-refused : goal.returns-clause-refused
unfolding number_of number
returns-clause-refused c =
    eights_rest _ _ _ _ _ c.tolerance_fault.ensures (passed-number c.in_ok-tolerance_fault.was) (omega arith) c.sum_floats.ensures c.sum_fault.ensures (passed-number c.in_ok-sum_fault.was) c.if-x-n.false c.index_fault.ensures (passed-number c.in_ok-index_fault.was)
    (rw (eq-eqb _ _ c.if-x-ne0.false))

pub returns-clause-passed : goal.returns-clause-passed
returns-clause-passed c = (omega (arith, c.if-x-n.false, c.if-x-ne0.false), sym c.index_fault.ensures ∙ passed-number c.in_ok-index_fault.was)
