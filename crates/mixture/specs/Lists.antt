-- Lists and counts that know nothing of a mixture.
use Rattle.std.specs.Prelude.{Bool, false, ◌||◌, cond, List, [], ◌∷◌, ◌++◌, ℕ, zero, suc, ◌+◌, ◌-◌, length, replicate}

-- l with f k written at each place k that passes
unfoldable pub written : {A : Type 0} → (ℕ → Bool) → (ℕ → A) → List A → List A
written p f [] = []
written p f (a ∷ l) = cond (p 0) (f 0) a ∷ written (λ k. p (suc k)) (λ k. f (suc k)) l

-- l with z in the places past it, up to n
abbrev pub padded : {A : Type 0} → ℕ → A → List A → List A
padded n z l = l ++ replicate (n - length l) z

-- one passes
unfoldable pub any_of : {A : Type 0} → List A → (A → Bool) → Bool
any_of [] p = false
any_of (a ∷ l) p = p a || any_of l p

-- how many numbers below n pass
unfoldable pub how_many : ℕ → (ℕ → Bool) → ℕ
how_many zero p = 0
how_many (suc n) p = how_many n p + cond (p n) 1 0

-- how many i, j pass, i below m and j below n
unfoldable pub how_many_pairs : ℕ → ℕ → (ℕ → ℕ → Bool) → ℕ
how_many_pairs zero n p = 0
how_many_pairs (suc m) n p = how_many_pairs m n p + how_many n (p m)

-- f 0, .., f (n - 1)
unfoldable pub row : {A : Type 0} → ℕ → (ℕ → A) → List A
row zero f = []
row (suc n) f = row n f ++ (f n ∷ [])

-- n rows one after the other, row i of so many as len i says
unfoldable pub rows : {A : Type 0} → ℕ → (ℕ → ℕ) → (ℕ → ℕ → A) → List A
rows zero len f = []
rows (suc n) len f = rows n len f ++ row (len n) (f n)
