-- What is cut is below 1,493 in size, so it fits an i64.
use Rattle.std.proofs.Common.{◌≡◌, Bool, true, false, cond, T, pos, sym, ap, ◌∙◌, subst, w64}
use lib.Ieee.{Float, fin, binary64, add, mul, of_bits, neg, round, to_signed, lt, le}
use mir.ValLaws.{to_z-of_z}
use Rattle.arithmetic.specs.Floats.{◌⊕◌, ◌⊗◌, dec, half}
use Rattle.arithmetic.specs.Exponential.{exponent, reciprocal, rounding}
use Rattle.arithmetic.proofs.Within.{above-least, below-most}
use Rattle.arithmetic.proofs.exponential.Cutting.{cut_within}
use Rattle.arithmetic.proofs.exponential.exponent.Goals as goal
use Rattle.arithmetic.proofs.exponential.exponent.Goals.{then-v, else-v}

cut_is : (c : goal.Joined-v) → add binary64 (mul binary64 (of_bits binary64 4609176140021203710) c.args.v) c.if-v.h ≡ reciprocal ⊗ c.args.v ⊕ rounding c.args.v
unfolding reciprocal rounding half dec round of_bits neg
cut_is c =
    ap (λ (h : Float). reciprocal ⊗ c.args.v ⊕ h)
    (elim c.if-v.branch [
      | then-v w ↦ w.h-is ∙ sym (ap (λ (t : Bool). cond t (neg half) half) w.if-v.true)
      | else-v w ↦ w.h-is ∙ sym (ap (λ (t : Bool). cond t (neg half) half) w.if-v.false)
    ])

pub truncating_f64_to_i64-requires-clause-lower_bound : goal.truncating_f64_to_i64-requires-clause-lower_bound
truncating_f64_to_i64-requires-clause-lower_bound c =
    subst (λ (x : Float). T (le (fin true 1 (pos 63)) x)) (sym (cut_is c)) (above-least _ (cut_within c.args.v c.requires))

pub truncating_f64_to_i64-requires-clause-upper_bound : goal.truncating_f64_to_i64-requires-clause-upper_bound
truncating_f64_to_i64-requires-clause-upper_bound c =
    subst (λ (x : Float). T (lt x (fin false 1 (pos 63)))) (sym (cut_is c)) (below-most _ (cut_within c.args.v c.requires))

pub returns : goal.returns
unfolding exponent
returns c =
    to_z-of_z w64 c.truncating_f64_to_i64.result (record { sfits = c.truncating_f64_to_i64.type_inv })
    ∙ c.truncating_f64_to_i64.ensures
    ∙ ap (to_signed 63) (cut_is c.before)
