-- Where a field ends: at the first byte that ends it, or with the text.
use mathlib.Core.Path.{◌≡◌, refl, sym, ap, ◌∙◌}
use mathlib.Core.Bool.{Bool, true, false, cond, not}
use mathlib.Core.List.{List}
use Prim.Native.Nat.{ℕ, ◌+◌, ◌-◌, ◌≤◌, ◌<◌, suc}
use native.Mathlib.Omega.{arith}
use lib.Dec.{ltb}
use lib.ListN.{length, take, drop, length-drop}
use lib.Seq.{take_all}
use native.Mathlib.Nat.{le_of_eq}
use borrow.Author.Tests.{ltb-true, ltb-false}
use Rattle.std.specs.Prelude.{Some, None, position}
use Rattle.std.specs.List.{position_or_len}
use Rattle.std.proofs.lemmas.List.Recursion.{is_position_or_len}
use Rattle.std.proofs.lemmas.List.Sums.{prefix_len-le-length}
use Rattle.models.specs.Suppliers.{ends, field_length}

length-is : (s : List ℕ) → field_length s ≡ position_or_len ends s
unfolding field_length
length-is s = is_position_or_len field_length ends refl (λ b l. step (ends b) (field_length l)) s
  where
    step : (t : Bool) (n : ℕ) → cond t 0 (suc n) ≡ cond t 0 (1 + n)
    step true n = refl
    step false n = omega arith

some_at : (p m n : ℕ) (t : Bool) → ltb p m ≡ t → Some n ≡ cond t (Some p) None → (n ≡ p) × (n < m)
some_at p m n true e f = let g : n ≡ p = cc in let h = ltb-true p m e in (g, omega arith)
some_at p m n false e f = absurd cc

none_at : (p m : ℕ) (t : Bool) → ltb p m ≡ t → None ≡ cond t (Some p) None → m ≤ p
none_at p m true e f = absurd cc
none_at p m false e f = ltb-false p m e

-- in what follows a place
module _ (s : List ℕ) (at : ℕ) where
  abbrev lent : List ℕ
  lent = take (length s - at) (drop at s)

  all-lent : lent ≡ drop at s
  all-lent = take_all (length s - at) (drop at s) (le_of_eq (length-drop at s))

  pub ends-before : {n : ℕ} → Some n ≡ position ends lent → (n ≡ field_length (drop at s)) × (n < length (drop at s))
  ends-before {n} e =
      let w = some_at (position_or_len ends (drop at s)) (length (drop at s)) n _ refl (e ∙ ap (position ends) all-lent) in
      (w.0 ∙ sym (length-is (drop at s)), w.1)

  pub ends_with_text : at ≤ length s → None ≡ position ends lent → length s ≡ at + field_length (drop at s)
  ends_with_text h e =
      let w = none_at (position_or_len ends (drop at s)) (length (drop at s)) _ refl (e ∙ ap (position ends) all-lent) in
      let b = prefix_len-le-length (λ b. not (ends b)) (drop at s) in
      omega (arith, length-is (drop at s), length-drop at s)
