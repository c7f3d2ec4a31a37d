-- Whether the head is in range: n first; then UNIFAC's lists, and nothing more for the other three.
use Rattle.std.proofs.Common.{◌≡◌, refl, sym, ◌∙◌, true, inl, inr}
use borrow.Author.Tests.{le-leb, lt-leb}
use Rattle.models.specs.Faults.{between}
use Rattle.models.specs.declared.model.Model.TheVariants.{Wilson, Uniquac, Nrtl}
use Rattle.mixture.specs.Layout.{data_in}
use Rattle.mixture.proofs.CallLaws.{range_not, range-plain, range-lists}
use Rattle.mixture.proofs.faults.in_range.Goals as goal
use Rattle.mixture.proofs.faults.in_range.Goals.{then-n-lt1-via-then-n-lt1, then-n-lt1-via-else-n-lt1+then-n-gt-COMPONENTS}

pub returns-then-n-lt1 : goal.returns-then-n-lt1
returns-then-n-lt1 c m =
    elim c.then-n-lt1.branch [
      | then-n-lt1-via-then-n-lt1 w ↦ range_not (data_in m c.args.head) (simp (lt-leb _ _ w.if-n-lt1.true))
      | then-n-lt1-via-else-n-lt1+then-n-gt-COMPONENTS w ↦ range_not (data_in m c.args.head) (simp (le-leb 1 _ w.if-n-lt1.false, lt-leb _ 12 w.if-n-gt-COMPONENTS.true))
    ]

pub returns-in-Wilson : goal.returns-in-Wilson
returns-in-Wilson c m =
    let d = data_in m c.args.head in
    let few : between 1 12 d.n ≡ true = simp (le-leb 1 _ c.if-n-lt1.false, le-leb _ 12 c.if-n-gt-COMPONENTS.false) in
    elim c.in-Wilson.is [
      | inl e ↦ range-plain d Wilson (sym c.model_of.ensures ∙ e) refl few
      | inr (inl e) ↦ range-plain d Uniquac (sym c.model_of.ensures ∙ e) refl few
      | inr (inr e) ↦ range-plain d Nrtl (sym c.model_of.ensures ∙ e) refl few
    ]

pub returns-in-Unifac : goal.returns-in-Unifac
returns-in-Unifac c m =
    range-lists (data_in m c.args.head) (sym c.model_of.ensures ∙ c.in-Unifac.is) (simp (le-leb 1 _ c.if-n-lt1.false, le-leb _ 12 c.if-n-gt-COMPONENTS.false)) c.lists_in_range.ensures
