-- G. M. Wilson, J. Am. Chem. Soc. 86 (1964) 127: the excess energy, and ln γ that follows from it, for any number of components.
-- Over the molar volumes v (V of the paper), a table of exponentials E whose diagonal is ignored, and the fractions x.
use Rattle.std.specs.Prelude.{cond, ℕ, eqb, Float}
use Rattle.arithmetic.specs.Tables.{Table, Vector}
use Rattle.arithmetic.specs.Floats.{◌⊖◌, ◌⊗◌, ◌⊘◌, +0, one}
use Rattle.arithmetic.specs.Logarithm.{log_of}
use Rattle.arithmetic.specs.Sums.{fold, sum}
use Rattle.models.specs.declared.answers.Quantity.{Quantity}
use Rattle.models.specs.Answers.{quantity}
use Rattle.models.specs.Exponentials.{energy}

-- Λ_ij = (V_j/V_i)·E_ij, Λ_ii = 1
unfoldable pub lambda : Vector → Table → ℕ → ℕ → Float
lambda v E i j = cond (eqb i j) one (v j ⊘ v i ⊗ E i j)

-- Σ_j x_j Λ_ij
unfoldable pub row_sum : ℕ → Vector → Table → Vector → ℕ → Float
row_sum n v E x i = sum n (λ j. x j ⊗ lambda v E i j)

-- ln γ_i = 1 - ln(Σ_j x_j Λ_ij) - Σ_k x_k Λ_ki / Σ_j x_j Λ_kj
unfoldable pub ln_gamma : ℕ → Vector → Table → Vector → ℕ → Float
ln_gamma n v E x i = one ⊖ log_of (row_sum n v E x i) ⊖ sum n (λ k. x k ⊗ lambda v E k i ⊘ row_sum n v E x k)

-- g/RT = -Σ_i x_i ln(Σ_j x_j Λ_ij): each term is taken from the running value, which starts at +0
unfoldable pub excess : ℕ → Vector → Table → Vector → Float
excess n v E x = fold n +0 (λ i s. s ⊖ x i ⊗ log_of (row_sum n v E x i))

unfoldable pub wilson : ℕ → Vector → Table → Vector → Quantity → Float
wilson n v E x q = quantity q (ln_gamma n v E x) (excess n v E x)

-- at T, over the energies a
unfoldable pub wilson_at : ℕ → Vector → Table → Float → Vector → Quantity → Float
wilson_at n v a T x q = wilson n v (energy a T) x q
