-- The tests of the word are the definition's.
use Rattle.std.proofs.Common.{sym, ◌∙◌}
use Rattle.strip.proofs.GroupListLaws.{word_cut, word_by}
use Rattle.strip.proofs.lists.i_of_word.Goals as goal

pub returns-then-not-has : goal.returns-then-not-has
returns-then-not-has c = sym (word_cut _ c.args.kind _ _ (sym c.has.ensures ∙ c.if-not-has.true))

pub returns-then-not-is_of : goal.returns-then-not-is_of
returns-then-not-is_of c = word_by _ _ _ _ (sym c.has.ensures ∙ c.if-not-has.false) c.at-w.ensures ∙ sym c.is_of.ensures ∙ c.if-not-is_of.true

pub returns : goal.returns
returns c = (word_by _ _ _ _ (sym c.has.ensures ∙ c.if-not-has.false) c.at-w.ensures ∙ sym c.is_of.ensures ∙ c.if-not-is_of.false, rw (← c.at-w.ensures) c.i.ensures)
