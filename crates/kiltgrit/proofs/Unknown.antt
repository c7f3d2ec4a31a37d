-- A model, form, kind or quantity that means nothing becomes an n or an index that no model has: a head that passes has at most 12
-- components and 32 groups.
use mathlib.Core.Path.{◌≡◌, refl, ap}
use mathlib.Core.Bool.{false}
use mathlib.Core.Logic.{inl, inr}
use Prim.Native.Nat.{ℕ, ◌≤◌}
use native.Mathlib.Omega.{arith}
use lib.Dec.{eqb, leb, ltb}
use borrow.Author.Tests.{eqb-true, leb-false, le-ltb}
use Rattle.arithmetic.specs.Floats.{+0}
use Rattle.arithmetic.proofs.Tests.{either}
use Rattle.models.specs.Answers.{first}
use Rattle.models.specs.Faults.{index_fault, shape_fault, lists_fault, unifac_fault, data_fault}
use Rattle.models.specs.Model.{ModelData}
use Rattle.models.specs.declared.answers.Quantity.TheVariants.{LnGamma}
use Rattle.models.specs.declared.model.Model.{Model}
use Rattle.models.specs.declared.model.Model.TheVariants.{Wilson, Uniquac, Nrtl, Unifac}
use Rattle.mixture.specs.declared.setting.Setting.TheVariants.{Size}
use Rattle.mixture.specs.Holdings.{held}
use Rattle.mixture.specs.Cells.{width}
use Rattle.mixture.specs.Faults.{case_fault, has_size}
use Rattle.mixture.specs.Layout.{data_in}
use Rattle.mixture.specs.Faults.{memory_fault, head_fault, ready_fault, load_fault, setting_fault, query_fault}
use Rattle.mixture.proofs.CallLaws.{head_passed, ready_passed}
use Rattle.mixture.proofs.History.RangeLaws.{Bounds}
use Rattle.kiltgrit.specs.declared.arguments.CSetting.{CSetting}
use Rattle.kiltgrit.specs.Arguments.{no_index, known_n, load_of, is_kind, setting_of, quantity_asked}
use Rattle.kiltgrit.specs.Unknown.{UnknownModel, UnknownKind, UnknownAsked}

-- ---- the model

no_n : (d : ModelData) → d.n ≡ 0 → data_fault d ≡ 2
unfolding data_fault shape_fault unifac_fault lists_fault
no_n d z = go d.model refl
  where
    go : (k : Model) → d.model ≡ k → data_fault d ≡ 2
    go Wilson e = rw (e, z) refl
    go Uniquac e = rw (e, z) refl
    go Nrtl e = rw (e, z) refl
    go Unifac e = rw (e, z) refl

pub unknown_model : UnknownModel
unfolding load_fault known_n
unknown_model m model form n ng lens groups given u =
    ap (first (memory_fault m)) (no_n (load_of model form n ng lens groups given) (rw u refl))

-- ---- the kind and the quantity

-- what follows a fault counts only where there is none
behind : (k : ℕ) {a b : ℕ} → (k ≡ 0 → a ≡ b) → first k a ≡ first k b
behind k f =
    elim (either (eqb k 0)) [
      | inl t ↦ rw (t, f (eqb-true k 0 t)) refl
      | inr t ↦ rw t refl
    ]

far : {k : ℕ} → k ≤ 32 → ltb no_index k ≡ false
far {k} h = le-ltb no_index k (omega arith)

no_size : (d : ModelData) → Bounds d → case_fault (held d) (Size no_index 0 +0) ≡ 10
unfolding case_fault has_size width
no_size d b = go d.model refl
  where
    few : d.n ≤ 32
    few = let h = b.few in omega arith

    go : (k : Model) → d.model ≡ k → case_fault (held d) (Size no_index 0 +0) ≡ 10
    go Wilson e = rw (e, far few) refl
    go Uniquac e = rw (e, far few) refl
    go Nrtl e = rw e refl
    go Unifac e = let h : d.ng ≤ 32 = rw e at b.wide.1 in rw (e, far h) refl

unknown_setting : (s : CSetting) → is_kind s.kind ≡ false → setting_of s ≡ Size no_index 0 +0
unfolding setting_of
unknown_setting s u = rw u

pub unknown_kind : UnknownKind
unfolding setting_fault
unknown_kind m h s u = rw (unknown_setting s u) (behind (head_fault m h) (λ e. no_size (data_in m h) (head_passed m h e).range))

unknown_quantity : (asked i : ℕ) → leb asked 2 ≡ false → quantity_asked asked i ≡ LnGamma no_index
unfolding quantity_asked
unknown_quantity asked i u = rw (le-ltb asked 3 (leb-false asked 2 u))

no_index_lem : (n : ℕ) → n ≤ 12 → index_fault n (LnGamma no_index) ≡ 7
unfolding index_fault
no_index_lem n h = rw (far {k = n} (omega arith)) refl

pub unknown_asked : UnknownAsked
unfolding query_fault
unknown_asked m h asked i u =
    rw (unknown_quantity asked i u)
    (behind (ready_fault m h) (λ e. no_index_lem h.n (ready_passed m h e).range.few))
