-- Inner contracts: terms that a closure gives by their index.
use Rattle.std.specs.Prelude.{◌≡◌, cond, ℕ, ◌<◌, eqb, Float}
use Rattle.arithmetic.specs.Tables.{Vector}

-- it may be called at each index below n
abbrev pub CalledBelow : ℕ → (ℕ → Type 0) → Type 0
CalledBelow n pre = (k : ℕ) → k < n → pre k

-- and gives t there
abbrev pub GivesBelow : ℕ → (ℕ → Float → Type 0) → Vector → Type 0
GivesBelow n post t = (k : ℕ) → k < n → (r : Float) → post k r → r ≡ t k

-- it gives v alone
abbrev pub GivesOnly : (Float → Type 0) → Float → Type 0
GivesOnly post v = (r : Float) → post r → r ≡ v

-- t, and own for i
unfoldable pub with_own : ℕ → Float → Vector → ℕ → Float
with_own i own t k = cond (eqb i k) own (t k)
