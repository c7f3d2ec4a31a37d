-- D. S. Abrams, J. M. Prausnitz, AIChE J. 21 (1975) 116: UNIQUAC.
-- Over the sizes r and q, a table of exponentials E whose diagonal is ignored, and the fractions x.
-- docs/DIFFERENCES.md: a_ii for the paper's a_jj in τ_ij; NaN at x_i = 0; the excess energy as Σ x_i ln γ_i.
use Rattle.std.specs.Prelude.{false, ℕ, Float}
use Rattle.arithmetic.specs.Tables.{Table, Vector}
use Rattle.arithmetic.specs.Floats.{◌⊕◌, ◌⊖◌, ◌⊗◌, ◌⊘◌, dec, one, half}
use Rattle.arithmetic.specs.Logarithm.{log_of}
use Rattle.arithmetic.specs.Sums.{sum}
use Rattle.models.specs.declared.answers.Quantity.{Quantity}
use Rattle.models.specs.Answers.{quantity}
use Rattle.models.specs.Columns.{unit_diagonal, column_sum}
use Rattle.models.specs.Exponentials.{energy}

-- Z = 10, the coordination number
unfoldable pub Z : Float
Z = dec false 10 0

-- τ_ij = E_ij, τ_ii = 1
abbrev pub tau : Table → ℕ → ℕ → Float
tau E = unit_diagonal E

-- x_i s_i / Σ_j x_j s_j: φ_i for s = r, θ_i for s = q
unfoldable pub share : ℕ → Vector → Vector → ℕ → Float
share n s x i = x i ⊗ s i ⊘ sum n (λ j. x j ⊗ s j)

-- l_i = Z/2·(r_i - q_i) - (r_i - 1)
unfoldable pub l : Vector → Vector → ℕ → Float
l r q i = half ⊗ Z ⊗ (r i ⊖ q i) ⊖ (r i ⊖ one)

-- φ_i/x_i
unfoldable pub segment_ratio : ℕ → Vector → Vector → ℕ → Float
segment_ratio n r x i = share n r x i ⊘ x i

-- θ_i/φ_i
unfoldable pub area_ratio : ℕ → Vector → Vector → Vector → ℕ → Float
area_ratio n r q x i = share n q x i ⊘ share n r x i

-- ln(φ_i/x_i) + Z/2·q_i·ln(θ_i/φ_i) + l_i - φ_i/x_i·Σ_j x_j l_j
unfoldable pub combinatorial : ℕ → Vector → Vector → Vector → ℕ → Float
combinatorial n r q x i =
    log_of (segment_ratio n r x i) ⊕ half ⊗ Z ⊗ q i ⊗ log_of (area_ratio n r q x i) ⊕ l r q i
    ⊖ segment_ratio n r x i ⊗ sum n (λ j. x j ⊗ l r q j)

-- q_i·(1 - ln(Σ_k θ_k τ_ki) - Σ_j θ_j τ_ij / Σ_k θ_k τ_kj)
unfoldable pub residual : ℕ → Vector → Table → Vector → ℕ → Float
residual n q E θ i = q i ⊗ (one ⊖ log_of (column_sum n (tau E) θ i) ⊖ sum n (λ j. θ j ⊗ tau E i j ⊘ column_sum n (tau E) θ j))

unfoldable pub ln_gamma : ℕ → Vector → Vector → Table → Vector → ℕ → Float
ln_gamma n r q E x i = combinatorial n r q x i ⊕ residual n q E (share n q x) i

-- Σ_i x_i ln γ_i
unfoldable pub excess : ℕ → Vector → Vector → Table → Vector → Float
excess n r q E x = sum n (λ i. x i ⊗ ln_gamma n r q E x i)

unfoldable pub uniquac : ℕ → Vector → Vector → Table → Vector → Quantity → Float
uniquac n r q E x k = quantity k (ln_gamma n r q E x) (excess n r q E x)

-- at T, over the energies a
unfoldable pub uniquac_at : ℕ → Vector → Vector → Table → Float → Vector → Quantity → Float
uniquac_at n r q a T x k = uniquac n r q (energy a T) x k
