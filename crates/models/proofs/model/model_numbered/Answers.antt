-- A number that is no model's is none of the three that the definition tests.
use mathlib.Core.Path.{◌≡◌, refl, sym, ap, ◌∙◌}
use mathlib.Core.Bool.{true, false, true≢false}
use Prim.Native.Nat.{ℕ}
use borrow.Author.Tests.{ne_eqb}
use Rattle.std.specs.Prelude.{Result, Ok, Err}
use Rattle.std.specs.Result.{result_unwrap_or}
use Rattle.models.specs.declared.model.Model.{Model}
use Rattle.models.specs.declared.model.UnknownModel.{UnknownModel}
use Rattle.models.specs.declared.model.Model.TheVariants.{Unifac}
use Rattle.models.specs.Model.{is_model, model_of, Numbered}
use Rattle.models.proofs.model.model_numbered.Goals as goal

other : (j k : ℕ) → is_model j ≡ true → is_model k ≡ false → k ≡ j → ⊥
other j k p q e = true≢false (sym p ∙ sym (ap is_model e) ∙ q)

no-model : (k : ℕ) → is_model k ≡ false → Unifac ≡ model_of k
unfolding model_of
no-model k q = rw (ne_eqb k 1 (other 1 k refl q), ne_eqb k 2 (other 2 k refl q), ne_eqb k 3 (other 3 k refl q))

by-result : (k : ℕ) (r : Result Model UnknownModel) → Numbered k r → result_unwrap_or r Unifac ≡ model_of k
by-result k (Ok m) p = p.1
by-result k (Err e) p = no-model k p.0

pub returns : goal.returns
returns c = c.unwrap_or.ensures ∙ by-result _ _ c.try_from.ensures
