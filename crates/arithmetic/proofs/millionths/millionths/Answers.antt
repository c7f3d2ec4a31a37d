-- The fields of the bits: by the exponent refused, nothing, or the digits in millionths with the sign.
use Rattle.std.proofs.Common.{◌≡◌, true, T, sym, refl, ap, ◌∙◌, subst, arith}
use lib.Ieee.{Float, nan, inf, fin, binary64, fits, is_nan}
use Rattle.arithmetic.specs.Millionths.{millionths_of}
use Rattle.arithmetic.specs.Refusals.{Value, Refused, number, answer_of}
use Rattle.arithmetic.proofs.millionths.Steps.{refused, none, positive, negative, less-back}
use Rattle.arithmetic.proofs.millionths.millionths.Goals as goal

at_nan : (v : Float) → true ≡ is_nan v → Refused 11 ≡ millionths_of v
unfolding millionths_of is_nan
at_nan nan e = refl
at_nan (inf s) e = cc
at_nan (fin s m x) e = cc

held : (v : Float) → fits binary64 v ≡ true → T (fits binary64 v)
held v e = subst T (sym e) tt

pub returns-then-is_nan : goal.returns-then-is_nan
unfolding answer_of number
returns-then-is_nan c = at_nan c.args.v c.if-is_nan.ensures.value

pub returns-then-x-ge1034 : goal.returns-then-x-ge1034
unfolding answer_of number
returns-then-x-ge1034 c = refused c.args.v (held c.args.v c.well_formed.0.1) (omega arith)

pub returns-then-x-lt1000 : goal.returns-then-x-lt1000
unfolding answer_of
returns-then-x-lt1000 c = none c.args.v (held c.args.v c.well_formed.0.1) (omega arith)

pub returns-then-b-lt9223372036854775808 : goal.returns-then-b-lt9223372036854775808
unfolding answer_of
returns-then-b-lt9223372036854775808 c =
    let n = c.in_millionths-n in
    positive c.args.v (held c.args.v c.well_formed.0.1) n.result (omega arith) (omega arith) n.ensures.0 n.ensures.1 (omega arith)

pub returns : goal.returns
unfolding answer_of
returns c =
    let n = c.in_millionths-n in
    ap Value (less-back n.result n.ensures.1)
    ∙ negative c.args.v (held c.args.v c.well_formed.0.1) n.result (omega arith) (omega arith) n.ensures.0 n.ensures.1 (omega arith)
