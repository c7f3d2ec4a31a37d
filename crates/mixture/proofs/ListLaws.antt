-- Lists written at places, padded lists, and counts by rows or in one run.
use mathlib.Core.Path.{◌≡◌, refl, sym, ap, ◌∙◌}
use mathlib.Core.Bool.{Bool, true, false, ◌&&◌, ◌||◌, cond, or-true, or-false}
use mathlib.Core.List.{List, [], ◌∷◌, ◌++◌}
use Prim.Native.Nat.{ℕ, zero, suc, ◌+◌, ◌*◌, ◌<◌, ◌≤◌}
use native.Mathlib.Nat.{add-zero, add-suc, suc-mul, zero-mul, add_assoc}
use native.Mathlib.Numerals.{add-one}
use native.Mathlib.Omega.{arith}
use lib.Dec.{eqb, eqb-zero-suc, eqb-suc-zero, eqb-suc-suc}
use lib.ListN.{length, get_or, set, take, replicate}
use Rattle.std.specs.List.{list_all}
use Rattle.std.proofs.lemmas.List.Folds.{list_all_more}
use Rattle.models.specs.Faults.{all_to}
use Rattle.mixture.specs.Lists.{written, how_many, how_many_pairs}

-- ---- cases

pub never : {A : Type 0} → ◌≡◌ {A = Bool} true false → A
never h = let z : ◌≡◌ {A = ℕ} 1 0 = ap (λ (x : Bool). cond x 1 0) h in absurd (omega arith)

pub or-none : (a b : Bool) → (a || b) ≡ false → (a ≡ false) × (b ≡ false)
or-none true b h = never h
or-none false b h = (refl, h)

-- ---- a list written at places

pub length-written : {A : Type 0} (p : ℕ → Bool) (f : ℕ → A) (l : List A) → length (written p f l) ≡ length l
unfolding written
length-written p f [] = refl
length-written p f (a ∷ l) = ap suc (length-written (λ k. p (suc k)) (λ k. f (suc k)) l)

pub length_as : {A : Type 0} (p : ℕ → Bool) (f : ℕ → A) (l : List A) {m : List A} → m ≡ written p f l → length m ≡ length l
length_as p f l e = ap length e ∙ length-written p f l

pub get_or-written : {A : Type 0} (p : ℕ → Bool) (f : ℕ → A) (l : List A) (c : ℕ) (d : A) → c < length l
    → get_or (written p f l) c d ≡ cond (p c) (f c) (get_or l c d)
unfolding written
get_or-written p f [] c d h = absurd (omega arith)
get_or-written p f (a ∷ l) zero d h = refl
get_or-written p f (a ∷ l) (suc c) d h = get_or-written (λ k. p (suc k)) (λ k. f (suc k)) l c d (omega arith)

-- a place that doesn't pass is kept
pub get_or_kept : {A : Type 0} (p : ℕ → Bool) (f : ℕ → A) (l : List A) (c : ℕ) (d : A) → p c ≡ false → get_or (written p f l) c d ≡ get_or l c d
unfolding written
get_or_kept p f [] c d h = refl
get_or_kept p f (a ∷ l) zero d h = rw h
get_or_kept p f (a ∷ l) (suc c) d h = get_or_kept (λ k. p (suc k)) (λ k. f (suc k)) l c d h

pub written_same : {A : Type 0} (p q : ℕ → Bool) (f : ℕ → A) (l : List A) → ((c : ℕ) → p c ≡ q c) → written p f l ≡ written q f l
unfolding written
written_same p q f [] h = refl
written_same p q f (a ∷ l) h = rw (h 0, written_same (λ k. p (suc k)) (λ k. q (suc k)) (λ k. f (suc k)) l (λ c. h (suc c)))

-- other values where the test passes
pub written_as : {A : Type 0} (p : ℕ → Bool) (f g : ℕ → A) (l : List A) → ((c : ℕ) → p c ≡ true → f c ≡ g c) → written p f l ≡ written p g l
unfolding written
written_as p f g [] h = refl
written_as p f g (a ∷ l) h = rw (first (p 0) (h 0), written_as (λ k. p (suc k)) (λ k. f (suc k)) (λ k. g (suc k)) l (λ c. h (suc c)))
  where
    first : (t : Bool) → (t ≡ true → f 0 ≡ g 0) → cond t (f 0) a ≡ cond t (g 0) a
    first true k = k refl
    first false k = refl

pub written_none : {A : Type 0} (p : ℕ → Bool) (f : ℕ → A) (l : List A) → ((c : ℕ) → p c ≡ false) → l ≡ written p f l
unfolding written
written_none p f [] h = refl
written_none p f (a ∷ l) h = rw (h 0, ← written_none (λ k. p (suc k)) (λ k. f (suc k)) l (λ c. h (suc c)))

-- one place more
pub written-set : {A : Type 0} (p q : ℕ → Bool) (f : ℕ → A) (l : List A) (k : ℕ) → ((c : ℕ) → q c ≡ (p c || eqb c k)) → set (written p f l) k (f k) ≡ written q f l
unfolding written
written-set p q f [] k h = refl
written-set {A} p q f (a ∷ l) zero h =
    rw (h 0, or-true (p 0))
    (ap (λ (r : List A). f 0 ∷ r) (written_same (λ k. p (suc k)) (λ k. q (suc k)) (λ k. f (suc k)) l (λ c. sym (h (suc c) ∙ rw (eqb-suc-zero c) (or-false (p (suc c)))))))
written-set p q f (a ∷ l) (suc k) h =
    rw (h 0, eqb-zero-suc k, or-false (p 0), written-set (λ k. p (suc k)) (λ k. q (suc k)) (λ k. f (suc k)) l k (λ c. h (suc c) ∙ rw (eqb-suc-suc c k)))

-- the places of one test, then those of another
pub written_both : {A : Type 0} (p q r : ℕ → Bool) (f : ℕ → A) (l : List A) → ((c : ℕ) → r c ≡ (p c || q c)) → written q f (written p f l) ≡ written r f l
unfolding written
written_both p q r f [] h = refl
written_both {A} p q r f (a ∷ l) h =
    rw (h 0, written_both (λ k. p (suc k)) (λ k. q (suc k)) (λ k. r (suc k)) (λ k. f (suc k)) l (λ c. h (suc c)))
    (ap (λ (b : A). b ∷ written (λ k. r (suc k)) (λ k. f (suc k)) l) (twice (p 0) (q 0)))
  where
    twice : (s t : Bool) → cond t (f 0) (cond s (f 0) a) ≡ cond (s || t) (f 0) a
    twice true true = refl
    twice true false = refl
    twice false true = refl
    twice false false = refl

-- ---- padded lists

get_or-zeros : {A : Type 0} (m : ℕ) (z : A) (c : ℕ) → get_or (replicate m z) c z ≡ z
get_or-zeros zero z c = refl
get_or-zeros (suc m) z zero = refl
get_or-zeros (suc m) z (suc c) = get_or-zeros m z c

-- a reading that gives z past the end doesn't see z's past the end
pub get_or_past : {A : Type 0} (m : ℕ) (z : A) (l : List A) (c : ℕ) → get_or (l ++ replicate m z) c z ≡ get_or l c z
get_or_past m z [] c = get_or-zeros m z c
get_or_past m z (a ∷ l) zero = refl
get_or_past m z (a ∷ l) (suc c) = get_or_past m z l c

-- ---- counts

pub how_many-le : (n : ℕ) (p : ℕ → Bool) → how_many n p ≤ n
unfolding how_many
how_many-le zero p = omega arith
how_many-le (suc n) p = omega (arith, how_many-le n p, one-le (p n))
  where
    one-le : (t : Bool) → cond t 1 0 ≤ 1
    one-le true = omega arith
    one-le false = omega arith

pub how_many-none : (n : ℕ) (p : ℕ → Bool) → ((k : ℕ) → k < n → p k ≡ false) → how_many n p ≡ 0
unfolding how_many
how_many-none zero p h = refl
how_many-none (suc n) p h = rw (how_many-none n p (λ k b. h k (omega arith)), h n (omega arith))

pub how_many-same : (n : ℕ) (p q : ℕ → Bool) → ((k : ℕ) → k < n → p k ≡ q k) → how_many n p ≡ how_many n q
unfolding how_many
how_many-same zero p q h = refl
how_many-same (suc n) p q h = rw (how_many-same n p q (λ k b. h k (omega arith)), h n (omega arith))

pub how_many-add : (m n : ℕ) (p : ℕ → Bool) → how_many (m + n) p ≡ how_many m p + how_many n (λ j. p (m + j))
unfolding how_many
how_many-add m zero p = rw (add-zero m, add-zero)
how_many-add m (suc n) p = rw (add-suc m n, how_many-add m n p, add_assoc)

-- rows of n one after the other
pub how_many-rows : (m n : ℕ) (p : ℕ → Bool) → how_many (m * n) p ≡ how_many_pairs m n (λ i j. p (i * n + j))
unfolding how_many how_many_pairs
how_many-rows zero n p = rw (zero-mul n)
how_many-rows (suc m) n p = rw (suc-mul m n, how_many-add (m * n) n p, how_many-rows m n p)

pub how_many_pairs-same : (m n : ℕ) (p q : ℕ → ℕ → Bool) → ((i j : ℕ) → i < m → j < n → p i j ≡ q i j) → how_many_pairs m n p ≡ how_many_pairs m n q
unfolding how_many_pairs
how_many_pairs-same zero n p q h = refl
how_many_pairs-same (suc m) n p q h =
    rw (how_many_pairs-same m n p q (λ i j b c. h i j (omega arith) c), how_many-same n (p m) (q m) (λ j c. h m j (omega arith) c))

-- ---- all of the first places

-- of a list's first items all pass
pub all_to-list : {A : Type 0} (f : A → Bool) (z : A) (l : List A) (n : ℕ) → n ≤ length l → list_all f (take n l) ≡ all_to n (λ p. f (get_or l p z))
unfolding all_to
all_to-list f z l zero h = refl
all_to-list f z l (suc n) h =
    rw add-one at (list_all_more f l n z (omega arith)) ∙ ap (λ (b : Bool). b && f (get_or l n z)) (all_to-list f z l n (omega arith))
