-- Goes by the head's model: the head passed, so its model's function may be called, and the cells and value that it gives are the answer.
use Rattle.std.proofs.Common.{sym, ◌∙◌}
use Rattle.mixture.proofs.query.QueryLaws.{query_passed, head-ranged, wilson-answered, uniquac-answered, nrtl-answered, unifac-answered}
use Rattle.mixture.proofs.query.solve.Goals as goal

pub wilson-requires : goal.wilson-requires
wilson-requires c = (query_passed _ _ _ c.requires).1

pub uniquac-requires : goal.uniquac-requires
uniquac-requires c = (query_passed _ _ _ c.requires).1

pub nrtl-requires : goal.nrtl-requires
nrtl-requires c = (query_passed _ _ _ c.requires).1

pub unifac-requires : goal.unifac-requires
unifac-requires c = let p = query_passed _ _ _ c.requires in (head-ranged _ _ p.0 (sym c.model_of.ensures ∙ c.in-Unifac.is), p.1)

pub returns-in-Wilson : goal.returns-in-Wilson
returns-in-Wilson c = wilson-answered _ _ _ (sym c.model_of.ensures ∙ c.in-Wilson.is) c.wilson.ensures

pub returns-in-Uniquac : goal.returns-in-Uniquac
returns-in-Uniquac c = uniquac-answered _ _ _ (sym c.model_of.ensures ∙ c.in-Uniquac.is) c.uniquac.ensures

pub returns-in-Nrtl : goal.returns-in-Nrtl
returns-in-Nrtl c = nrtl-answered _ _ _ (sym c.model_of.ensures ∙ c.in-Nrtl.is) c.nrtl.ensures

pub returns-in-Unifac : goal.returns-in-Unifac
returns-in-Unifac c = unifac-answered _ _ _ (sym c.model_of.ensures ∙ c.in-Unifac.is) c.unifac.ensures
