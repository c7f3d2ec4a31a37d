-- Two holdings that agree at the names that their model has: they stay so under a setting, and have the same cells and
-- refusals. Memory and book are such a pair.
use mathlib.Core.Path.{◌≡◌, refl, ◌∙◌}
use mathlib.Core.Bool.{true}
use mathlib.Core.Logic.{inl, inr}
use Prim.Native.Nat.{ℕ, ◌<◌, ◌≤◌}
use lib.ListN.{length}
use borrow.Author.Tests.{le-ltb}
use lib.Ieee.{Float}
use Rattle.arithmetic.specs.declared.parameters.TdParam.{TdParam}
use Rattle.arithmetic.proofs.Tests.{le-or}
use Rattle.models.specs.Values.{lists}
use Rattle.models.specs.declared.model.Model.{Model}
use Rattle.models.specs.declared.model.Model.TheVariants.{Wilson, Uniquac, Nrtl, Unifac}
use Rattle.mixture.specs.declared.setting.Setting.{Setting}
use Rattle.mixture.specs.declared.setting.Setting.TheVariants.{Temperature, Entry, TdEntry, Size, Count, Tolerance}
use Rattle.mixture.specs.Holdings.{Held, held}
use Rattle.mixture.specs.Cells.{width, is_cell}
use Rattle.models.specs.Model.{ModelData, by_model, size_of}
use Rattle.mixture.specs.Faults.{has_entry, has_td_entry, has_size, has_count, case_fault}
use Rattle.mixture.specs.Book.{replaced, holding, set_in}
use Rattle.mixture.proofs.History.StoreLaws.{stored, entry-after, td_after, size-after, count-after}

-- ng and lists, for UNIFAC
pub record ListsAlike (c d : Held) : Type 0 where
  pub ng : c.ng ≡ d.ng
  pub length : (i : ℕ) → i < d.n → c.lists.length i ≡ d.lists.length i
  pub group : (i p : ℕ) → i < d.n → p < d.lists.length i → c.lists.group i p ≡ d.lists.group i p

-- the same model and sizes
pub record Alike (c d : Held) : Type 0 where
  pub model : c.model ≡ d.model
  pub n : c.n ≡ d.n
  pub groups : d.model ≡ Unifac → ListsAlike c d

-- and the same values
pub record Agrees (c d : Held) : Type 0 where
  pub alike : Alike c d
  pub entry : (i j : ℕ) → has_entry d i j ≡ true → c.entry i j ≡ d.entry i j
  pub td_entry : (i j : ℕ) → has_td_entry d i j ≡ true → c.td_entry i j ≡ d.td_entry i j
  pub size : (i which : ℕ) → has_size d i which ≡ true → c.size i which ≡ d.size i which
  pub count : (i j : ℕ) → has_count d i j ≡ true → c.lists.count i j ≡ d.lists.count i j

-- ---- the same cases, indices and cells

-- two choices that differ in UNIFAC's alone
pub at-unifac : {A : Type 0} (k : Model) (a b c : A) {d e : A} → (k ≡ Unifac → d ≡ e) → by_model k a b c d ≡ by_model k a b c e
at-unifac Wilson a b c h = refl
at-unifac Uniquac a b c h = refl
at-unifac Nrtl a b c h = refl
at-unifac Unifac a b c h = h refl

module _ (c d : Held) (a : Alike c d) where
  pub has_entry-same : (i j : ℕ) → has_entry c i j ≡ has_entry d i j
  unfolding has_entry
  has_entry-same i j = rw (a.model, a.n)

  pub has_td_entry-same : (i j : ℕ) → has_td_entry c i j ≡ has_td_entry d i j
  unfolding has_td_entry
  has_td_entry-same i j = rw (a.model, a.n) (at-unifac d.model _ _ _ (λ e. rw (a.groups e).ng))

  pub has_size-same : (i w : ℕ) → has_size c i w ≡ has_size d i w
  unfolding has_size
  has_size-same i w = rw (a.model, a.n) (at-unifac d.model _ _ _ (λ e. rw (a.groups e).ng))

  pub has_count-same : (i j : ℕ) → has_count c i j ≡ has_count d i j
  unfolding has_count
  has_count-same i j =
      rw (a.model, a.n)
      (at-unifac d.model _ _ _
      (λ e.
      elim (le-or d.n i) [
        | inl h ↦ rw (le-ltb i d.n h)
        | inr h ↦ rw ((a.groups e).length i h)
      ]))

  pub case_fault-same : (s : Setting) → case_fault c s ≡ case_fault d s
  unfolding case_fault
  case_fault-same (Temperature T) = refl
  case_fault-same (Entry i j v) = rw (has_entry-same i j)
  case_fault-same (TdEntry i j p) = rw (has_td_entry-same i j)
  case_fault-same (Size i w v) = rw (has_size-same i w)
  case_fault-same (Count i j v) = rw (has_count-same i j)
  case_fault-same (Tolerance ε) = refl

  pub width_same : width c ≡ width d
  unfolding width
  width_same = rw (a.model, a.n) (at-unifac d.model _ _ _ (λ e. (a.groups e).ng))

  pub is_cell-same : (i j : ℕ) → is_cell c i j ≡ is_cell d i j
  unfolding is_cell
  is_cell-same i j = rw a.model

-- ---- one after the other

pub alike_refl : (d : Held) → Alike d d
alike_refl d = record { model = refl; n = refl; groups = λ e. record { ng = refl; length = λ i h. refl; group = λ i p h g. refl } }

alike_trans : {b c d : Held} → Alike b c → Alike c d → Alike b d
alike_trans {b} {c} {d} p q =
    record { model = p.model ∙ q.model; n = p.n ∙ q.n; groups = λ e. lists_trans (p.groups (q.model ∙ e)) (q.groups e) }
  where
    lists_trans : ListsAlike b c → ListsAlike c d → ListsAlike b d
    lists_trans x y =
        record {
          ng = x.ng ∙ y.ng;
          length = λ i h. x.length i (rw q.n h) ∙ y.length i h;
          group = λ i r h g. x.group i r (rw q.n h) (rw (y.length i h) g) ∙ y.group i r h g;
        }

pub agrees_trans : {b c d : Held} → Agrees b c → Agrees c d → Agrees b d
agrees_trans {b} {c} {d} p q =
    record {
      alike = alike_trans p.alike q.alike;
      entry = λ i j h. p.entry i j (has_entry-same c d q.alike i j ∙ h) ∙ q.entry i j h;
      td_entry = λ i j h. p.td_entry i j (has_td_entry-same c d q.alike i j ∙ h) ∙ q.td_entry i j h;
      size = λ i w h. p.size i w (has_size-same c d q.alike i w ∙ h) ∙ q.size i w h;
      count = λ i j h. p.count i j (has_count-same c d q.alike i j ∙ h) ∙ q.count i j h;
    }

-- ---- under a setting

-- other values leave model, sizes and lists
values-alike : (c d : Held) → Alike c d → (e f : ℕ → ℕ → Float) (t u : ℕ → ℕ → TdParam) (s r : ℕ → ℕ → Float) (k l : ℕ → ℕ → Float) → Alike (holding c e t s k) (holding d f u r l)
values-alike c d a e f t u s r k l =
    record { model = a.model; n = a.n; groups = λ q. let g = a.groups q in record { ng = g.ng; length = g.length; group = g.group } }

pub set-alike : (s : Setting) (d : Held) → Alike d (set_in s d)
unfolding set_in
set-alike (Temperature T) d = alike_refl d
set-alike (Entry i j v) d = values-alike d d (alike_refl d) _ _ _ _ _ _ _ _
set-alike (TdEntry i j p) d = values-alike d d (alike_refl d) _ _ _ _ _ _ _ _
set-alike (Size i w v) d = values-alike d d (alike_refl d) _ _ _ _ _ _ _ _
set-alike (Count i j v) d = values-alike d d (alike_refl d) _ _ _ _ _ _ _ _
set-alike (Tolerance ε) d = alike_refl d

replaced-same : {A : Type 0} (f g : ℕ → ℕ → A) (i j : ℕ) (v : A) (r s : ℕ) → f r s ≡ g r s → replaced f i j v r s ≡ replaced g i j v r s
unfolding replaced
replaced-same f g i j v r s e = rw e

-- holdings that agree do so after the same setting
module _ (c d : Held) (a : Agrees c d) where
  sets-alike : (s : Setting) → Alike (set_in s c) (set_in s d)
  unfolding set_in
  sets-alike (Temperature T) = a.alike
  sets-alike (Entry i j v) = values-alike c d a.alike _ _ _ _ _ _ _ _
  sets-alike (TdEntry i j p) = values-alike c d a.alike _ _ _ _ _ _ _ _
  sets-alike (Size i w v) = values-alike c d a.alike _ _ _ _ _ _ _ _
  sets-alike (Count i j v) = values-alike c d a.alike _ _ _ _ _ _ _ _
  sets-alike (Tolerance ε) = a.alike

  pub set_agrees : (s : Setting) → Agrees (set_in s c) (set_in s d)
  unfolding set_in has_entry has_td_entry has_size has_count
  set_agrees (Temperature T) = a
  set_agrees (Entry i j v) =
      record {
        alike = sets-alike (Entry i j v);
        entry = λ r s h. replaced-same c.entry d.entry i j v r s (a.entry r s h);
        td_entry = a.td_entry;
        size = a.size;
        count = a.count;
      }
  set_agrees (TdEntry i j p) =
      record {
        alike = sets-alike (TdEntry i j p);
        entry = a.entry;
        td_entry = λ r s h. replaced-same c.td_entry d.td_entry i j p r s (a.td_entry r s h);
        size = a.size;
        count = a.count;
      }
  set_agrees (Size i w v) =
      record {
        alike = sets-alike (Size i w v);
        entry = a.entry;
        td_entry = a.td_entry;
        size = λ r s h. replaced-same c.size d.size i w v r s (a.size r s h);
        count = a.count;
      }
  set_agrees (Count i j v) =
      record {
        alike = sets-alike (Count i j v);
        entry = a.entry;
        td_entry = a.td_entry;
        size = a.size;
        count = λ r s h. replaced-same c.lists.count d.lists.count i j v r s (a.count r s h);
      }
  set_agrees (Tolerance ε) = a

-- a store in the values is a setting of the holdings
pub store_agrees : (d : ModelData) (s : Setting) → case_fault (held d) s ≡ 0 → size_of d ≤ length d.values → Agrees (held (stored d s)) (set_in s (held d))
unfolding lists
store_agrees d s f room =
    let k = set-alike s (held d) in
    record {
      alike = record { model = k.model; n = k.n; groups = λ e. let l = k.groups e in record { ng = l.ng; length = l.length; group = l.group } };
      entry = λ i j h. entry-after d room s f i j (has_entry-same _ _ k i j ∙ h);
      td_entry = λ i j h. td_after d room s f i j (has_td_entry-same _ _ k i j ∙ h);
      size = λ i w h. size-after d room s f i w (has_size-same _ _ k i w ∙ h);
      count = λ i j h. count-after d room s f i j (has_count-same _ _ k i j ∙ h);
    }
