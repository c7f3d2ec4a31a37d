-- H. Renon, J. M. Prausnitz, AIChE J. 14 (1968) 135: NRTL.
-- Over τ at T and a table of exponentials G, both with their diagonal ignored, and the fractions x.
use Rattle.std.specs.Prelude.{cond, ℕ, eqb, Float}
use Rattle.arithmetic.specs.Tables.{Table, Vector}
use Rattle.arithmetic.specs.Floats.{◌⊕◌, ◌⊖◌, ◌⊗◌, ◌⊘◌, +0}
use Rattle.arithmetic.specs.Sums.{sum}
use Rattle.arithmetic.specs.Parameters.{td_at}
use Rattle.arithmetic.specs.declared.parameters.TdParam.{TdParam}
use Rattle.models.specs.declared.answers.Quantity.{Quantity}
use Rattle.models.specs.Answers.{quantity}
use Rattle.models.specs.Columns.{unit_diagonal, column_sum}
use Rattle.models.specs.Exponentials.{nonrandomness}

-- entry j of row i, and 0 for i = j
unfoldable pub tau_at : ℕ → Vector → ℕ → Float
tau_at i row j = cond (eqb i j) +0 (row j)

-- τ with 0 on its diagonal
unfoldable pub tau : Table → ℕ → ℕ → Float
tau τ i j = tau_at i (τ i) j

-- G with 1 on its diagonal
abbrev pub g : Table → ℕ → ℕ → Float
g G = unit_diagonal G

-- Σ_k x_k G_kj
abbrev pub denominator : ℕ → Table → Vector → ℕ → Float
denominator n G x = column_sum n (g G) x

-- Σ_m x_m G_mj τ_mj
unfoldable pub numerator : ℕ → Table → Table → Vector → ℕ → Float
numerator n τ G x j = sum n (λ m. x m ⊗ g G m j ⊗ tau τ m j)

-- ln γ_i = Σ_j x_j G_ji τ_ji / Σ_k x_k G_ki + Σ_j (x_j G_ij / Σ_k x_k G_kj)·(τ_ij - Σ_m x_m G_mj τ_mj / Σ_k x_k G_kj)
unfoldable pub ln_gamma : ℕ → Table → Table → Vector → ℕ → Float
ln_gamma n τ G x i =
    numerator n τ G x i ⊘ denominator n G x i
    ⊕ sum n (λ j. x j ⊗ g G i j ⊘ denominator n G x j ⊗ (tau τ i j ⊖ numerator n τ G x j ⊘ denominator n G x j))

-- g/RT = Σ_i x_i·(Σ_j x_j G_ji τ_ji) / Σ_k x_k G_ki
unfoldable pub excess : ℕ → Table → Table → Vector → Float
excess n τ G x = sum n (λ i. x i ⊗ numerator n τ G x i ⊘ denominator n G x i)

unfoldable pub nrtl : ℕ → Table → Table → Vector → Quantity → Float
nrtl n τ G x q = quantity q (ln_gamma n τ G x) (excess n τ G x)

-- at T, over the td entries τ and the numbers α
unfoldable pub nrtl_at : ℕ → (ℕ → ℕ → TdParam) → Table → Float → Vector → Quantity → Float
nrtl_at n τ α T x q = nrtl n (λ i j. td_at (τ i j) T) (nonrandomness α (λ i j. td_at (τ i j) T)) x q
