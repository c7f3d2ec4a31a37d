-- Each return is the line of `log_of` that the tests on the way pick.
use Rattle.std.proofs.Common.{◌≡◌, ℕ, suc, ◌+◌, ◌-◌, ◌*◌, ◌/◌, ◌%◌, ◌^◌, ◌<◌, sym, ◌∙◌, arith}
use lib.Count.{count_leading_zeros}
use lib.Ieee.{Float, binary64, of_bits, to_bits, round}
use Rattle.arithmetic.specs.Floats.{dec, one}
use Rattle.arithmetic.proofs.Tests.{passed}
use Rattle.arithmetic.proofs.ByteLaws.{nan_is}
use Rattle.arithmetic.proofs.logarithm.LogBranches.{Positive, normal_of, log_nan, is_inf, log_negative, log_zero, log_inf, log_one, log_rest}
use Rattle.arithmetic.proofs.logarithm.Decomposing.{Parts, parts_of, q-range, small-zeros, small-q, small-x, rest-is}
use Rattle.arithmetic.proofs.logarithm.LogarithmElementary.careful_value.Goals as goal

-- ---- the special values
pub returns-then-is_nan : goal.returns-then-is_nan
returns-then-is_nan c = rw (nan_is c.args.v (sym c.if-is_nan.ensures.value)) log_nan

pub returns-then-v : goal.returns-then-v
unfolding of_bits
returns-then-v c = log_negative c.args.v (sym c.if-is_nan.ensures.value) c.if-v.true

pub returns-then-v-2 : goal.returns-then-v-2
unfolding of_bits
returns-then-v-2 c = log_zero c.args.v (sym c.if-is_nan.ensures.value) c.if-v.false c.if-v-2.true

pub returns-then-v-3 : goal.returns-then-v-3
unfolding of_bits
returns-then-v-3 c =
    is_inf c.args.v c.if-v-3.true ∙ log_inf c.args.v (sym c.if-is_nan.ensures.value) c.if-v.false c.if-v-2.false c.if-v-3.true

pub returns-then-v-4 : goal.returns-then-v-4
unfolding of_bits one dec round
returns-then-v-4 c =
    log_one c.args.v (sym c.if-is_nan.ensures.value, c.if-v.false, c.if-v-2.false, c.if-v-3.false) c.if-v-4.true

-- ---- from 2 ^ -1022 up
pub easy_value-requires : goal.easy_value-requires
unfolding of_bits
easy_value-requires c =
    normal_of c.args.v (sym c.if-is_nan.ensures.value, c.if-v.false, c.if-v-2.false, c.if-v-3.false) c.if-b-ne0.true

-- ---- below 2 ^ -1022, z being the zeros in front of the bits
module _ (v : Float) (p : Parts v) (low : to_bits binary64 v / 2 ^ 52 ≡ 0) (z : ℕ) (is : z ≡ count_leading_zeros 64 (to_bits binary64 v)) where
  few : (z ≡ 63 - (p.z + p.E)) × (p.z + p.E < 52)
  few = let zeros = small-zeros p low in (is ∙ zeros.0, zeros.1)

  digits : to_bits binary64 v * 2 ^ (z - 11) % 18446744073709551616 ≡ p.m * 2 ^ (52 - p.z)
  digits = rw is (small-q p low)

  height : 64 - z ≡ suc (p.z + p.E)
  height = rw is (small-x p low)

positive : (c : goal.After-from-z) → Positive c.args.v
unfolding of_bits
positive c = (sym c.if-is_nan.ensures.value, c.if-v.false, c.if-v-2.false, c.if-v-3.false)

parts : (c : goal.After-from-z) → Parts c.args.v
parts c = parts_of c.args.v (positive c) (passed c.well_formed.0.1)

pub overflow_sub-z : goal.overflow_sub-z
overflow_sub-z c = let f = few c.args.v (parts c) c.if-b-ne0.false c.from-z.result c.from-z.ensures in omega arith

pub from_digits-requires : goal.from_digits-requires
from_digits-requires c =
    let range = q-range (parts c) in
    rw (digits c.args.v (parts c) c.if-b-ne0.false c.from-z.result c.from-z.ensures) (range.0, range.1, omega arith)

pub returns : goal.returns
unfolding of_bits one dec round
returns c =
    let v = c.args.v in
    let positive : Positive v = (sym c.if-is_nan.ensures.value, c.if-v.false, c.if-v-2.false, c.if-v-3.false) in
    let p = parts_of v positive (passed c.well_formed.0.1) in
    let low = c.if-b-ne0.false in
    c.from_digits.ensures
    ∙ rest-is p _ _ (digits v p low c.from-z.result c.from-z.ensures) (height v p low c.from-z.result c.from-z.ensures)
    ∙ log_rest v positive c.if-v-4.false
