-- What a test comes to, as a fact.
use Rattle.std.proofs.Common.{◌≡◌, ℕ, ◌<◌, ◌≤◌, Bool, true, false, not, T, eqb, leb, ◌⊎◌, sym, refl, subst, inl, inr, arith, eqb→eq, leb→le, leb-false, leb-true}
use Prim.Native.Nat.{compare, Ordering}
use lib.Dec.{is_le, compare_is_eq, nleb→lt, eqb_refl}
use lib.Arith.{lt_of_le-ne}

pub passed : {b : Bool} → b ≡ true → T b
passed e = subst T (sym e) tt

pub failed : {b : Bool} → b ≡ false → T (not b)
failed e = subst (λ (b : Bool). T (not b)) (sym e) tt

pub either : (b : Bool) → (b ≡ true) ⊎ (b ≡ false)
either true = inl refl
either false = inr refl

pub le-or : (a b : ℕ) → (a ≤ b) ⊎ (b < a)
le-or a b = elim (either (leb a b)) [ inl h ↦ inl (leb-true a b h) | inr h ↦ inr (leb-false a b h) ]

-- ---- what `compare` says
abbrev pub Cmp : Ordering → ℕ → ℕ → Type 0
Cmp Ordering.lt a b = a < b
Cmp Ordering.eq a b = a ≡ b
Cmp Ordering.gt a b = b < a

pub cmp : (a b : ℕ) → Cmp (compare a b) a b
cmp a b = go (compare a b) (leb→le a b) (nleb→lt a b) (eqb→eq a b) (λ (e : a ≡ b). subst (λ (x : ℕ). T (eqb a x)) e (eqb_refl a))
  where
    go : (o : Ordering) → (T (is_le o) → a ≤ b) → (T (not (is_le o)) → b < a) → (T (compare_is_eq o) → a ≡ b) → (a ≡ b → T (compare_is_eq o)) → Cmp o a b
    go Ordering.lt h k e n = lt_of_le-ne (h tt) n
    go Ordering.eq h k e n = e tt
    go Ordering.gt h k e n = k tt

pub cmp-same : (o p : Ordering) (a b : ℕ) → Cmp o a b → Cmp p a b → o ≡ p
cmp-same Ordering.lt Ordering.lt a b h k = refl
cmp-same Ordering.lt Ordering.eq a b h k = absurd (omega arith)
cmp-same Ordering.lt Ordering.gt a b h k = absurd (omega arith)
cmp-same Ordering.eq Ordering.lt a b h k = absurd (omega arith)
cmp-same Ordering.eq Ordering.eq a b h k = refl
cmp-same Ordering.eq Ordering.gt a b h k = absurd (omega arith)
cmp-same Ordering.gt Ordering.lt a b h k = absurd (omega arith)
cmp-same Ordering.gt Ordering.eq a b h k = absurd (omega arith)
cmp-same Ordering.gt Ordering.gt a b h k = refl
