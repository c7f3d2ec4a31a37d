-- A table with 1 on its diagonal, and the sum down a column of a table.
use Rattle.std.specs.Prelude.{cond, ℕ, eqb, Float}
use Rattle.arithmetic.specs.Tables.{Table, Vector}
use Rattle.arithmetic.specs.Floats.{◌⊗◌, one}
use Rattle.arithmetic.specs.Sums.{sum}

-- entry j of row i, and 1 for i = j
unfoldable pub unit_at : ℕ → Vector → ℕ → Float
unit_at i row j = cond (eqb i j) one (row j)

-- a table with 1 on its diagonal
unfoldable pub unit_diagonal : Table → ℕ → ℕ → Float
unit_diagonal E i j = unit_at i (E i) j

-- Σ_k w_k E_kj
unfoldable pub column_sum : ℕ → Table → Vector → ℕ → Float
column_sum n E w j = sum n (λ k. w k ⊗ E k j)
