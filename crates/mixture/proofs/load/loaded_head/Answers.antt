-- The head of an accepted load: the fresh head of the model's number; only UNIFAC's has lists.
use Rattle.std.proofs.Common.{◌≡◌, refl, sym, ◌∙◌, true}
use Rattle.models.specs.declared.model.Model.{Model}
use Rattle.models.specs.declared.model.Model.TheVariants.{Wilson, Uniquac, Nrtl, Unifac}
use Rattle.models.specs.Model.{has_groups}
use Rattle.mixture.specs.Calls.{loaded_head}
use Rattle.mixture.proofs.ListLaws.{never}
use Rattle.mixture.proofs.load.loaded_head.Goals as goal

unifac : (k : Model) → has_groups k ≡ true → k ≡ Unifac
unifac Wilson e = never (sym e)
unifac Uniquac e = never (sym e)
unifac Nrtl e = never (sym e)
unifac Unifac e = refl

pub listed_head-requires : goal.listed_head-requires
listed_head-requires c = c.requires (unifac _ (sym c.has_groups.ensures ∙ c.if-has_groups.true))

pub returns-then-has_groups : goal.returns-then-has_groups
unfolding loaded_head
returns-then-has_groups c = c.listed_head.ensures ∙ rw (c.from-number.ensures, sym c.has_groups.ensures ∙ c.if-has_groups.true)

pub returns : goal.returns
unfolding loaded_head
returns c = c.bare_head.ensures ∙ rw (c.from-number.ensures, sym c.has_groups.ensures ∙ c.if-has_groups.false)
