use Rattle.std.proofs.Common.{ℕ, ◌^◌, ◌<◌, Bool, T, pos, sym, ap, ◌∙◌, arith, le→leb, rules}
use lib.Ieee.{in_float, binary64}
use Rattle.arithmetic.specs.Floats.{dec}
use Rattle.arithmetic.proofs.decimals.Tens.{plus_quotient, minus_quotient}
use Rattle.arithmetic.proofs.decimals.quotient.Statement.{statement}
use Rattle.arithmetic.proofs.decimals.quotient.Tie as tie

whole_in_float : (n : ℕ) → n < 10 ^ 15 → T (in_float binary64 (pos n))
unfolding in_float
whole_in_float n h = le→leb n 9007199254740992 (omega arith)

returns-then-minus : tie.Need-returns-then-minus
returns-then-minus c =
    let a = c.before.before.before in
    minus_quotient a.args.n a.args.d a.requires.0 a.requires.1 c.before.ten-p.result c.before.ten-p.ensures
    ∙ ap (λ (s : Bool). dec s a.args.n a.args.d) (sym c.if-minus.true)

returns : tie.Need-returns
returns c =
    let a = c.before.before.before in
    plus_quotient a.args.n a.args.d a.requires.0 a.requires.1 c.before.ten-p.result c.before.ten-p.ensures
    ∙ ap (λ (s : Bool). dec s a.args.n a.args.d) (sym c.if-minus.false)

pub quotient_spec : {M : Type 1} → statement M
quotient_spec =
    tie.close
    (tie.spec (λ c. whole_in_float c.before.args.n c.before.requires.0) (λ c κs. search rules) returns-then-minus returns)
