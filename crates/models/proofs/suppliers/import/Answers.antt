-- Refuses with 2, then with the text's first fault; else copies what was read.
use Rattle.std.proofs.Common.{◌≡◌, ℕ, ◌*◌, ◌≤◌, refl, sym, ap, ◌∙◌, arith, take, length-take-le, mul-le-mul}
use Rattle.arithmetic.specs.Refusals.{number_of}
use Rattle.arithmetic.proofs.RefusalLaws.{number-positive}
use Rattle.arithmetic.proofs.slices.CopyLaws.{all_of}
use Rattle.models.proofs.AnswerLaws.{refused-on, passed-zero}
use Rattle.models.proofs.suppliers.ImportLaws.{bad_shape, bad_text, good_text}
use Rattle.models.proofs.suppliers.import.Goals as goal

pub returns-in_err-shape_fault : goal.returns-in_err-shape_fault
unfolding number_of
returns-in_err-shape_fault c =
    let e = c.in_err-shape_fault.field-0.0 in
    let b = bad_shape c.args.n c.args.entries.now c.args.text.now c.square-count.ensures c.in_err-shape_fault.ensures.refused (number-positive e) in
    record { refused = refused-on c.from_residual.result c.in_err-shape_fault.was (rw c.in_err-shape_fault.was b.0) c.from_residual.ensures.1; entries = b.1 }

pub returns-in_err-read_fields : goal.returns-in_err-read_fields
unfolding number_of
returns-in_err-read_fields c =
    let e = c.in_err-read_fields.field-0.0 in
    let r = c.from_residual-in_err-read_fields in
    let s = passed-zero c.in_ok-shape_fault.was c.shape_fault.ensures.refused in
    let b = bad_text c.args.n c.args.entries.now c.args.text.now c.square-count.ensures s refl c.in_err-read_fields.ensures.refused (number-positive e) in
    record { refused = refused-on r.result c.in_err-read_fields.was (rw c.in_err-read_fields.was b.0) r.ensures.1; entries = b.1 }

pub returns : goal.returns
unfolding number_of
returns c =
    let h = c.in_ok-shape_fault.ensures.passed in
    let s = c.in_ok-read_fields.ensures in
    let count-is : c.square-count.result ≡ c.args.n * c.args.n = c.square-count.ensures (omega arith) in
    let square-fits : c.args.n * c.args.n ≤ 144 = mul-le-mul h.1 h.1 in
    let counted = length-take-le c.square-count.result c.read_fields.new.entries (omega arith) in
    let first-places = ap (λ (j : ℕ). take j c.read_fields.new.entries) count-is in
    let g = good_text c.args.n c.args.entries.now c.args.text.now c.square-count.ensures c.in_ok-shape_fault.ensures.refused refl s.refused refl
    (c.copy.ensures ∙ all_of _ _ (counted ∙ sym h.2) ∙ first-places ∙ s.passed) in
    record { refused = g.0; entries = g.1 }
