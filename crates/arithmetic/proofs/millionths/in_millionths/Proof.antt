-- Whether one of the product's lowest 26 bits is set stands as its last bit.
use Rattle.std.proofs.Common.{◌∙◌, rules}
use Rattle.arithmetic.proofs.millionths.Steps.{no_rest, a-rest}
use Rattle.arithmetic.proofs.millionths.in_millionths.Statement.{statement}
use Rattle.arithmetic.proofs.millionths.in_millionths.Tie as tie

returns-then-low-eq0 : tie.Need-returns-then-low-eq0
returns-then-low-eq0 c =
    let a = c.before.before in
    (c.rounded.ensures.0 ∙ no_rest a.args.q a.args.d a.requires.1 c.before.if-low-eq0.true, c.rounded.ensures.1)

returns : tie.Need-returns
returns c =
    let a = c.before.before in
    (c.rounded-2.ensures.0 ∙ a-rest a.args.q a.args.d a.requires.1 c.before.if-low-eq0.false, c.rounded-2.ensures.1)

pub in_millionths_spec : {M : Type 1} → statement M
in_millionths_spec =
    tie.close
    (tie.spec
    (λ c. search rules)
    (λ c. search rules)
    (λ c. search rules)
    (λ c. search rules)
    (λ c. search rules)
    (λ c κs. search rules)
    returns-then-low-eq0
    (λ c. search rules)
    (λ c. search rules)
    (λ c. search rules)
    (λ c κs. search rules)
    returns)
