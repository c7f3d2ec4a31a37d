-- Inner contracts: what UNIQUAC's functions read, and what a call works out once for all components.
use Rattle.std.specs.Prelude.{◌≡◌, List, ℕ, ◌*◌, ◌≤◌, Float, length}
use Rattle.arithmetic.specs.Floats.{◌⊕◌, ◌⊖◌, ◌⊗◌, ◌⊘◌, one, half}
use Rattle.arithmetic.specs.Sums.{sum}
use Rattle.arithmetic.specs.Tables.{Table, Vector, Filled}
use Rattle.models.specs.Limits.{most_components}
use Rattle.models.specs.Columns.{column_sum}
use Rattle.models.specs.Uniquac.{Z, tau, share, l}

-- r, q, a table of exponentials and the fractions, of n components
pub record UniquacFits (n : ℕ) (r q e x : List Float) : Type 0 where
  pub few : n ≤ most_components
  pub sizes : n ≤ length r
  pub areas : n ≤ length q
  pub table : n * n ≤ length e
  pub fractions : n ≤ length x

-- Σ_j x_j r_j, Σ_j x_j l_j, θ and Σ_k θ_k τ_kj
pub record UniquacShared (n : ℕ) (r q : Vector) (E : Table) (x : Vector) (rx lx : Float) (theta sums : List Float) : Type 0 where
  pub r_sum : rx ≡ sum n (λ j. x j ⊗ r j)
  pub l_sum : lx ≡ sum n (λ j. x j ⊗ l r q j)
  pub shares : Filled (share n q x) n theta
  pub columns : Filled (column_sum n (tau E) (share n q x)) n sums
  pub thetas : n ≤ length theta
  pub summed : n ≤ length sums

-- the combinatorial part of ln γ_i, from r_i, q_i, φ_i/x_i, the logs of φ_i/x_i and θ_i/φ_i, and Σ_j x_j l_j
unfoldable pub combinatorial_by : Float → Float → Float → Float → Float → Float → Float
combinatorial_by r q segment ln_segment ln_area lx = ln_segment ⊕ half ⊗ Z ⊗ q ⊗ ln_area ⊕ (half ⊗ Z ⊗ (r ⊖ q) ⊖ (r ⊖ one)) ⊖ segment ⊗ lx

-- the residual part, from q_i, the table, θ, its column sums S and the log of the i-th
unfoldable pub residual_by : ℕ → Float → Table → Vector → Vector → Float → ℕ → Float
residual_by n q E θ S ln_sum i = q ⊗ (one ⊖ ln_sum ⊖ sum n (λ j. θ j ⊗ tau E i j ⊘ S j))
