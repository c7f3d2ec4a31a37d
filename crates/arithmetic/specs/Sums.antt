-- Every sum is a left fold from +0.0 in index order: document 01, "Arithmetic".
use Rattle.std.specs.Prelude.{ℕ, zero, suc, List, length, Float}
use Rattle.arithmetic.specs.Floats.{◌⊕◌, +0}
use Rattle.arithmetic.specs.Tables.{Vector, at}

-- f (n - 1) (.. (f 1 (f 0 s)))
unfoldable pub fold : ℕ → Float → (ℕ → Float → Float) → Float
fold zero s f = s
fold (suc n) s f = f n (fold n s f)

-- +0 ⊕ f 0 ⊕ f 1 ⊕ .. ⊕ f (n - 1)
unfoldable pub sum : ℕ → Vector → Float
sum n f = fold n +0 (λ k s. s ⊕ f k)

-- the sum of a slice
unfoldable pub total : List Float → Float
total x = sum (length x) (at x)
