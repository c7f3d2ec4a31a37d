-- Each return is the line of `exp_of` that the tests on the way pick.
use Rattle.std.proofs.Common.{◌≡◌, true, false, ◌&&◌, negsuc, refl, sym, ap, ◌∙◌, w64}
use lib.Ieee.{Float, fin, binary64, of_bits, neg, round, lt, le, of_int}
use mir.ValLaws.{to_z-of_z}
use Rattle.arithmetic.specs.Floats.{dec, one}
use Rattle.arithmetic.specs.Exponential.{highest, lowest, exponent}
use Rattle.arithmetic.proofs.Within.{near}
use Rattle.arithmetic.proofs.exponential.Cutting.{cut_within, Inside}
use Rattle.arithmetic.proofs.Powers.{Near}
use Rattle.arithmetic.proofs.Tests.{failed}
use Rattle.arithmetic.proofs.ByteLaws.{nan_is}
use Rattle.arithmetic.proofs.ExpBranches.{exp_nan, exp_high, exp_low, exp_tiny, exp_rest}
use Rattle.arithmetic.proofs.exponential.ExponentialElementary.careful_value.Goals as goal

-- ---- the tests, in the words of `exp_of`
not_high : (v : Float) → lt (of_bits binary64 4649454530587146735) v ≡ false → lt highest v ≡ false
unfolding highest dec round of_bits
not_high v e = e

not_low : (v : Float) → lt v (neg (of_bits binary64 4649765476928139345)) ≡ false → lt v lowest ≡ false
unfolding lowest dec round of_bits neg
not_low v e = e

not_tiny : (v : Float) → le (neg (of_bits binary64 4481081629233643520)) v && le v (of_bits binary64 4481081629233643520) ≡ false → le (fin true 1 (negsuc 27)) v && le v (fin false 1 (negsuc 27)) ≡ false
unfolding of_bits neg
not_tiny v e = e

inside : (c : goal.Else-v-3) → Inside c.args.v
inside c = (failed (sym c.if-is_nan.ensures.value), failed (not_high _ c.if-v.false), failed (not_low _ c.if-v-2.false))

near-k : (v : Float) → Inside v → Near (exponent v)
unfolding exponent
near-k v i = near _ (cut_within v i)

pub returns-then-is_nan : goal.returns-then-is_nan
returns-then-is_nan c = rw (nan_is c.args.v (sym c.if-is_nan.ensures.value)) exp_nan

pub returns-then-v : goal.returns-then-v
unfolding highest dec round of_bits
returns-then-v c = exp_high c.args.v (sym c.if-is_nan.ensures.value) c.if-v.true

pub returns-then-v-2 : goal.returns-then-v-2
unfolding lowest dec round of_bits neg
returns-then-v-2 c = exp_low c.args.v (sym c.if-is_nan.ensures.value) (not_high _ c.if-v.false) c.if-v-2.true

pub returns-then-v-3 : goal.returns-then-v-3
unfolding one dec round of_bits neg
returns-then-v-3 c =
    exp_tiny c.args.v (sym c.if-is_nan.ensures.value) (not_high _ c.if-v.false) (not_low _ c.if-v-2.false) c.if-v-3.true

pub exponent-k-requires : goal.exponent-k-requires
exponent-k-requires c = inside c

pub scaled-requires : goal.scaled-requires
scaled-requires c =
    rw (to_z-of_z w64 c.exponent-k.result (record { sfits = c.exponent-k.type_inv }), c.exponent-k.ensures)
    (near-k c.args.v (failed (sym c.if-is_nan.ensures.value), failed (not_high _ c.if-v.false), failed (not_low _ c.if-v-2.false)))

pub returns : goal.returns
returns c =
    let v = c.args.v in
    let k = to_z-of_z w64 c.exponent-k.result (record { sfits = c.exponent-k.type_inv }) ∙ c.exponent-k.ensures in
    c.scaled.ensures
    ∙ rw (c.reduced.ensures (exponent v) (c.nearest_i64_to_f64.ensures ∙ ap (of_int binary64) k), k) refl
    ∙ exp_rest v (sym c.if-is_nan.ensures.value) (not_high _ c.if-v.false) (not_low _ c.if-v-2.false) (not_tiny _ c.if-v-3.false)
