use Rattle.std.proofs.Common.{arith, sym, ◌∙◌, length-drop}
use Rattle.models.proofs.suppliers.FieldEnds.{ends-before, ends_with_text}
use Rattle.models.proofs.suppliers.field_end.Goals as goal

pub returns-in-Some : goal.returns-in-Some
returns-in-Some c =
    let w = ends-before c.args.text.now c.args.at (sym c.in-Some.is ∙ c.first_end.ensures) in
    (omega arith, omega arith, omega (arith, length-drop c.args.at c.args.text.now))

pub returns-in-None : goal.returns-in-None
returns-in-None c = (ends_with_text c.args.text.now c.args.at c.requires (sym c.in-None.is ∙ c.first_end.ensures), omega arith, omega arith)
