-- The digits and the exponent's field make the last line of `log_of`; 1 has its own.
use Rattle.std.proofs.Common.{◌≡◌, suc, ◌+◌, ◌-◌, ◌*◌, ◌/◌, ◌%◌, ◌^◌, ◌∙◌, arith}
use lib.Ieee.{binary64, of_bits, to_bits, round}
use Rattle.arithmetic.specs.Floats.{dec, one}
use Rattle.arithmetic.proofs.Tests.{passed}
use Rattle.arithmetic.proofs.logarithm.LogBranches.{normal_positive, log_one, log_rest}
use Rattle.arithmetic.proofs.logarithm.Decomposing.{Parts, parts_of, q-range, normal_q, normal_x, rest-is}
use Rattle.arithmetic.proofs.logarithm.LogarithmElementary.easy_value.Goals as goal

parts : (c : goal.Start) → Parts c.args.v
parts c = parts_of c.args.v (normal_positive c.args.v c.requires) (passed c.well_formed.0.1)

q-is : (c : goal.Start) → to_bits binary64 c.args.v % 4503599627370496 + 4503599627370496 ≡ (parts c).m * 2 ^ (52 - (parts c).z)
q-is c = normal_q (parts c) c.requires.field

x-is : (c : goal.Start) → to_bits binary64 c.args.v / 4503599627370496 + 52 ≡ suc ((parts c).z + (parts c).E)
x-is c = normal_x (parts c) c.requires.field

pub overflow_add-b-2 : goal.overflow_add-b-2
overflow_add-b-2 c = let a = x-is c in let h = (parts c).near in record { fits = omega arith }

pub from_digits-y-requires : goal.from_digits-y-requires
from_digits-y-requires c =
    let q = q-is c in
    let x = x-is c in
    let range = q-range (parts c) in
    let n = (parts c).near in
    (omega arith, omega arith, omega arith)

pub returns-then-v : goal.returns-then-v
unfolding of_bits one dec round
returns-then-v c = log_one c.args.v (normal_positive c.args.v c.requires) c.if-v.true

pub returns-else-v : goal.returns-else-v
unfolding of_bits one dec round
returns-else-v c =
    let v = c.args.v in
    let positive = normal_positive v c.requires in
    let parts = parts_of v positive (passed c.well_formed.0.1) in
    c.from_digits-y.ensures
    ∙ rest-is parts _ _ (normal_q parts c.requires.field) (normal_x parts c.requires.field)
    ∙ log_rest v positive c.if-v.false
