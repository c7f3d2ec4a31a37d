-- The fault of a model's data, and what they have shown, by the model.
use mathlib.Core.Path.{◌≡◌, refl, sym}
use mathlib.Core.Bool.{true, false}
use Prim.Native.Nat.{ℕ, ◌≤◌}
use lib.ListN.{length}
use Rattle.arithmetic.proofs.Tests.{passed}
use Rattle.models.specs.declared.model.Model.{Model}
use Rattle.models.specs.declared.model.Model.TheVariants.{Wilson, Uniquac, Nrtl, Unifac}
use Rattle.models.specs.Faults.{shape_fault, unifac_fault, data_fault}
use Rattle.models.specs.Model.{ModelData, by_model, has_groups}
use Rattle.models.specs.Values.{wilson_size, uniquac_size, nrtl_size}
use Rattle.models.specs.Steps.GroupLists.{Loaded}
use Rattle.models.specs.Steps.Model.{Ready}

-- by groups or none; the size that the code works out for a model without them
module _ (d : ModelData) where
  pub with_groups : true ≡ has_groups d.model →
      (unifac_fault d.n d.ng d.lens d.groups d.values ≡ data_fault d) × (Loaded d.n d.ng d.lens d.groups d.values → Ready d)
  unfolding data_fault
  with_groups = go d.model refl
    where
      go : (m : Model) → d.model ≡ m → true ≡ has_groups m →
          (unifac_fault d.n d.ng d.lens d.groups d.values ≡ data_fault d) × (Loaded d.n d.ng d.lens d.groups d.values → Ready d)
      go Wilson e g = absurd (passed (sym g))
      go Uniquac e g = absurd (passed (sym g))
      go Nrtl e g = absurd (passed (sym g))
      go Unifac e g = (rw e, λ l. record { few = l.few; fits = rw e l })

  pub without : false ≡ has_groups d.model → {size : ℕ} → size ≡ by_model d.model (wilson_size d.n) (uniquac_size d.n) (nrtl_size d.n) 0 →
      (shape_fault d.n size d.values ≡ data_fault d) × ((d.n ≤ 12) × (size ≤ length d.values) → Ready d)
  unfolding data_fault
  without = go d.model refl
    where
      go : (m : Model) → d.model ≡ m → false ≡ has_groups m → {size : ℕ} → size ≡ by_model m (wilson_size d.n) (uniquac_size d.n) (nrtl_size d.n) 0 →
          (shape_fault d.n size d.values ≡ data_fault d) × ((d.n ≤ 12) × (size ≤ length d.values) → Ready d)
      go Wilson e g s = (rw (e, s), λ p. record { few = p.0; fits = rw e (rw s at p.1) })
      go Uniquac e g s = (rw (e, s), λ p. record { few = p.0; fits = rw e (rw s at p.1) })
      go Nrtl e g s = (rw (e, s), λ p. record { few = p.0; fits = rw e (rw s at p.1) })
      go Unifac e g s = absurd (passed g)
