-- The whole call: 2, then the text's fault, and what stands in the slice.
use mathlib.Core.Path.{◌≡◌, sym, ◌∙◌}
use mathlib.Core.List.{List}
use Prim.Native.Nat.{ℕ, ◌*◌, ◌≤◌}
use lib.Ieee.{Float}
use borrow.Author.Tests.{ne_eqb}
use Rattle.models.specs.Faults.{shape_fault}
use Rattle.models.specs.Suppliers.{text_fault, text_values, import_fault, imported}
use Rattle.models.proofs.AnswerLaws.{first-left, first-right, shape_size}

-- a call answers f and leaves `new`
abbrev Said : ℕ → List Float → List ℕ → ℕ → List Float → Type 0
Said n old s f new = (f ≡ import_fault n old s) × (new ≡ imported n old s)

-- the size is worked out for an n that a byte can name alone
module _ (n : ℕ) (old : List Float) (s : List ℕ) {size k : ℕ} (sized : n ≤ 255 → size ≡ n * n)
    (judged : k ≡ shape_fault n size old) where
  shape_is : k ≡ shape_fault n (n * n) old
  shape_is = judged ∙ shape_size n size (n * n) old sized

  refused : {f : ℕ} → f ≡ import_fault n old s → (f ≡ 0 → ⊥) → Said n old s f old
  unfolding imported
  refused p some = (p, rw (← p, ne_eqb _ _ some))

  pub bad_shape : (k ≡ 0 → ⊥) → Said n old s k old
  unfolding import_fault
  bad_shape some = refused (first-left _ shape_is some) some

  module _ (fits : k ≡ 0) {f : ℕ} (found : f ≡ text_fault n (n * n) s) where
    fault-is : f ≡ import_fault n old s
    unfolding import_fault
    fault-is = first-right shape_is fits found

    pub bad_text : (f ≡ 0 → ⊥) → Said n old s f old
    bad_text some = refused fault-is some

    pub good_text : {new : List Float} → f ≡ 0 → new ≡ text_values (n * n) s → Said n old s 0 new
    unfolding imported
    good_text none w = (sym none ∙ fault-is, w ∙ rw (← fault-is, none))
