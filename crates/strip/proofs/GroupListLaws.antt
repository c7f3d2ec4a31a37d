-- A kind 4's lists: where they end, how many there are, and how they are stored in three buffers.
use Prim.Native.Nat.{ℕ, zero, suc, ◌+◌, ◌*◌, ◌-◌, ◌<◌, ◌≤◌}
use native.Mathlib.Nat.{add-zero, zero-add}
use native.Mathlib.Omega.{arith}
use native.Mathlib.Numerals.{add-one}
use mathlib.Core.Path.{◌≡◌, refl, sym, ap, ◌∙◌, subst}
use mathlib.Core.Bool.{true, false, ◌&&◌}
use mathlib.Core.List.{List}
use mathlib.Core.Logic.{inl, inr}
use lib.Dec.{leb, eqb}
use lib.ListN.{length, set}
use lib.Seq.{sets, length-sets}
use lib.Ieee.{Float}
use borrow.Author.Tests.{le-leb, lt-leb, leb-true}
use Rattle.arithmetic.specs.Bytes.{word_at, float_at}
use Rattle.arithmetic.proofs.Tests.{either, le-or}
use Rattle.mixture.proofs.PlaceLaws.{both}
use Rattle.std.specs.Prelude.{Option, Some, None, Result, Ok, Err, IsErr}
use Rattle.strip.specs.declared.lists.Met.{Met}
use Rattle.strip.specs.declared.lists.Walk.{Walk}
use Rattle.strip.specs.declared.lists.Part.{Part}
use Rattle.strip.specs.declared.lists.Part.TheVariants.{ListOf, Group}
use Rattle.strip.specs.declared.words.Broken.{Broken}
use Rattle.strip.specs.Words.{kind_of, i_of, j_of, rest_of}
use Rattle.strip.specs.GroupLists.{Lists, no_lists, missing, with_pair, with_list, is_word, pairs_at, lists_at}
use Rattle.strip.specs.Steps.Run.{ahead, ahead_of, Stepped, Stored}

-- ---- n bytes from p on

pub has_not : (p n l : ℕ) → l < n → false ≡ leb (p + n) l
has_not p n l h = sym (lt-leb (p + n) l (omega arith))

pub has_rest : (p n l : ℕ) → n ≤ l → leb p (l - n) ≡ leb (p + n) l
has_rest p n l h =
    elim (le-or p (l - n)) [
      | inl a ↦ le-leb p (l - n) a ∙ sym (le-leb (p + n) l (omega arith))
      | inr a ↦ lt-leb p (l - n) a ∙ sym (lt-leb (p + n) l (omega arith))
    ]

-- ---- a word of a kind

-- it lies within the strip
pub word_in : (s : List ℕ) (kind n p : ℕ) → is_word s kind n p ≡ true → p + n ≤ length s
unfolding is_word
word_in s kind n p h = leb-true (p + n) (length s) (both _ _ h).0

pub word_cut : (s : List ℕ) (kind n p : ℕ) → leb (p + n) (length s) ≡ false → false ≡ is_word s kind n p
unfolding is_word
word_cut s kind n p h = rw h

pub word_by : (s : List ℕ) (kind n p : ℕ) {w : ℕ} → leb (p + n) (length s) ≡ true → w ≡ word_at s p
    → is_word s kind n p ≡ (eqb (kind_of w) kind && (eqb (j_of w) 0 && eqb (rest_of w) 0))
unfolding is_word
word_by s kind n p h e = rw (h, ← e)

-- ---- what is left to read, of a list that was begun and of those after it: its next word

module _ (s : List ℕ) (left p : ℕ) {pairs : ℕ} where
  pub no_more : pairs ≡ 0 → left ≡ 0 → ahead s left pairs p ≡ no_lists p
  unfolding pairs_at lists_at
  no_more a b = rw (a, b)

  module _ (a : pairs ≡ 0) (n : ℕ) (e : left ≡ suc n) where
    pub no_12 : is_word s 12 4 p ≡ false → ahead s left pairs p ≡ missing
    unfolding pairs_at lists_at
    no_12 t = rw (a, e, t)

    pub one_12 : is_word s 12 4 p ≡ true → {v : ℕ} → v ≡ i_of (word_at s p) → ahead s left pairs p ≡ with_list v (ahead s n v (p + 4))
    unfolding pairs_at lists_at
    one_12 t q = rw (a, e, t, ← q)

  module _ (a : pairs ≡ 0 → ⊥) where
    more-pairs : pairs ≡ suc (pairs - 1)
    more-pairs = omega arith

    pub no_13 : is_word s 13 12 p ≡ false → ahead s left pairs p ≡ missing
    unfolding pairs_at
    no_13 t = rw (more-pairs, t)

    pub one_13 : is_word s 13 12 p ≡ true → {g : ℕ} → g ≡ i_of (word_at s p) → {v : Float} → v ≡ float_at s (p + 4)
        → ahead s left pairs p ≡ with_pair g v (ahead s left (pairs - 1) (p + 12))
    unfolding pairs_at
    one_13 t {g} q {v} f = subst (λ (k : ℕ). pairs_at s k (lists_at s left) p ≡ with_pair g v (ahead s left (pairs - 1) (p + 12))) (sym more-pairs) (rw (t, q, f))

-- a walk stops where a word is missing
pub stops : (s : List ℕ) (w w' : Walk) (r : Result (Option Part) Broken) → IsErr r → ahead_of s w ≡ missing → Stepped s w w' r
stops s w w' (Ok (Some (ListOf v))) h e = cc
stops s w w' (Ok (Some (Group g v))) h e = cc
stops s w w' (Ok None) h e = cc
stops s w w' (Err x) h e = e

-- where they end
pub ends : {a b : Lists} {e : ℕ} → a ≡ b → a.end ≡ e → b.end ≡ e
ends h i = ap (λ (z : Lists). z.end) (sym h) ∙ i

-- ---- they end no earlier than they start

abbrev EndsAfter : ℕ → (ℕ → Lists) → Type 0
EndsAfter q f = (p : ℕ) → q ≤ p → ((f p).end ≡ 0 → ⊥) → q ≤ (f p).end

pairs-after : (s : List ℕ) (q m : ℕ) (f : ℕ → Lists) → EndsAfter q f → EndsAfter q (pairs_at s m f)
unfolding pairs_at
pairs-after s q zero f h p l n = h p l n
pairs-after s q (suc m) f h p l n =
    elim (either (is_word s 13 12 p)) [
      | inl e ↦ rw e (pairs-after s q m f h (p + 12) (omega arith) (rw e at n))
      | inr e ↦ absurd ((rw e at n) refl)
    ]

pub lists-after : (s : List ℕ) (q m : ℕ) → EndsAfter q (lists_at s m)
unfolding lists_at
lists-after s q zero p l n = l
lists-after s q (suc m) p l n =
    elim (either (is_word s 12 4 p)) [
      | inl e ↦ rw e (pairs-after s q (i_of (word_at s p)) (lists_at s m) (lists-after s q m) (p + 4) (omega arith) (rw e at n))
      | inr e ↦ absurd ((rw e at n) refl)
    ]

-- ---- how many there are

-- the lists that f reads: at most n, with a count for each group, in 12 bytes each
pub record Few (s : List ℕ) (n : ℕ) (f : ℕ → Lists) : Type 0 where
  pub lens : (p : ℕ) → length (f p).lens ≤ n
  pub counts : (p : ℕ) → length (f p).counts ≡ length (f p).groups
  pub groups : (p : ℕ) → p ≤ length s → p + 12 * length (f p).groups ≤ length s

pairs-few : (s : List ℕ) (n m : ℕ) (f : ℕ → Lists) → Few s n f → Few s n (pairs_at s m f)
unfolding pairs_at
pairs-few s n zero f h = h
pairs-few s n (suc m) f h =
    let g = pairs-few s n m f h in
    record {
      lens = λ p. elim (either (is_word s 13 12 p)) [ inl e ↦ rw e (g.lens (p + 12)) | inr e ↦ rw e (omega arith) ];
      counts = λ p. elim (either (is_word s 13 12 p)) [ inl e ↦ rw e (ap suc (g.counts (p + 12))) | inr e ↦ rw e ];
      groups = λ p l. elim (either (is_word s 13 12 p)) [ inl e ↦ rw e (omega (arith, g.groups (p + 12) (word_in s 13 12 p e))) | inr e ↦ rw e (omega arith) ];
    }

pub lists-few : (s : List ℕ) (n : ℕ) → Few s n (lists_at s n)
unfolding lists_at
lists-few s zero = record { lens = λ p. omega arith; counts = λ p. refl; groups = λ p l. omega arith }
lists-few s (suc n) =
    let g : (m : ℕ) → Few s n (pairs_at s m (lists_at s n)) = λ m. pairs-few s n m (lists_at s n) (lists-few s n) in
    record {
      lens = λ p. elim (either (is_word s 12 4 p)) [ inl e ↦ rw e (omega (arith, (g (i_of (word_at s p))).lens (p + 4))) | inr e ↦ rw e (omega arith) ];
      counts = λ p. elim (either (is_word s 12 4 p)) [ inl e ↦ rw e ((g (i_of (word_at s p))).counts (p + 4)) | inr e ↦ rw e ];
      groups = λ p l. elim (either (is_word s 12 4 p)) [ inl e ↦ rw e (omega (arith, (g (i_of (word_at s p))).groups (p + 4) (word_in s 12 4 p e))) | inr e ↦ rw e (omega arith) ];
    }

-- ---- storing them: what is stored and what is left make the whole

pub record Storing (all : Lists) (ls₀ gs₀ : List ℕ) (a₀ : List Float) (left : Lists) (met : Met) (ls gs : List ℕ) (a : List Float) : Type 0 where
  pub lists : met.lists + length left.lens ≡ length all.lens
  pub groups : met.groups + length left.groups ≡ length all.groups
  pub lengths : sets ls met.lists left.lens ≡ sets ls₀ 0 all.lens
  pub members : sets gs met.groups left.groups ≡ sets gs₀ 0 all.groups
  pub numbers : sets a met.groups left.counts ≡ sets a₀ 0 all.counts

pub store_starts : (s : List ℕ) (n p : ℕ) (ls gs : List ℕ) (a : List Float) → Storing (lists_at s n p) ls gs a (ahead s n 0 p) (record { lists = 0; groups = 0 }) ls gs a
unfolding pairs_at
store_starts s n p ls gs a = record { lists = zero-add _; groups = zero-add _; lengths = refl; members = refl; numbers = refl }

module _ {all : Lists} {ls₀ gs₀ : List ℕ} {a₀ : List Float} {left : Lists} {met : Met} {ls gs : List ℕ} {a : List Float} (f : Storing all ls₀ gs₀ a₀ left met ls gs a) where
  -- with another name for what is left
  named : {l : Lists} → left ≡ l → Storing all ls₀ gs₀ a₀ l met ls gs a
  named e = subst (λ (z : Lists). Storing all ls₀ gs₀ a₀ z met ls gs a) e f

  pub store_ends : (p : ℕ) → left ≡ no_lists p → Stored all met ls₀ gs₀ a₀ ls gs a
  store_ends p e =
      let g = named e in
      record { lists = sym (add-zero met.lists) ∙ g.lists; groups = sym (add-zero met.groups) ∙ g.groups; lengths = g.lengths; members = g.members; numbers = g.numbers }

  pub store_12 : (v : ℕ) (more : Lists) → left ≡ with_list v more → {ls' : List ℕ} → ls' ≡ set ls met.lists v
      → Storing all ls₀ gs₀ a₀ more (record { lists = met.lists + 1; groups = met.groups }) ls' gs a
  store_12 v more e q =
      let g = named e in
      record { lists = omega (arith, g.lists); groups = g.groups; lengths = rw (q, add-one met.lists) g.lengths; members = g.members; numbers = g.numbers }

  pub store_13 : (v : ℕ) (x : Float) (more : Lists) → left ≡ with_pair v x more → {gs' : List ℕ} → gs' ≡ set gs met.groups v → {a' : List Float} → a' ≡ set a met.groups x
      → Storing all ls₀ gs₀ a₀ more (record { lists = met.lists; groups = met.groups + 1 }) ls gs' a'
  store_13 v x more e q r =
      let g = named e in
      record { lists = g.lists; groups = omega (arith, g.groups); lengths = g.lengths; members = rw (q, add-one met.groups) g.members; numbers = rw (r, add-one met.groups) g.numbers }

  -- no buffer grows
  pub store_kept : (length ls ≡ length ls₀) × (length gs ≡ length gs₀) × (length a ≡ length a₀)
  store_kept = (
    sym (length-sets ls met.lists left.lens) ∙ ap length f.lengths ∙ length-sets ls₀ 0 all.lens,
    sym (length-sets gs met.groups left.groups) ∙ ap length f.members ∙ length-sets gs₀ 0 all.groups,
    sym (length-sets a met.groups left.counts) ∙ ap length f.numbers ∙ length-sets a₀ 0 all.counts,
  )
