-- Each case of the definition, by the kind.
use Rattle.std.proofs.Common.{◌∙◌, sym, eq-eqb, ne_eqb}
use Rattle.models.specs.Values.{five_at}
use Rattle.kiltgrit.specs.Arguments.{setting_of}
use Rattle.kiltgrit.proofs.arguments.setting_of.Goals as goal

pub returns-then-s-eq14 : goal.returns-then-s-eq14
unfolding setting_of five_at
returns-then-s-eq14 c = rw (sym c.is_kind.ensures ∙ c.if-is_kind.true, eq-eqb _ _ c.if-s-eq14.true)

pub returns-then-is_kind : goal.returns-then-is_kind
unfolding setting_of five_at
returns-then-is_kind c =
    c.setting_of.ensures ∙ sym (rw (sym c.is_kind.ensures ∙ c.if-is_kind.true, ne_eqb _ _ c.if-s-eq14.false))
