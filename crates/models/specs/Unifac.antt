-- A. Fredenslund, R. L. Jones, J. M. Prausnitz, AIChE J. 21 (1975) 1086: UNIFAC.
-- Over the groups' sizes R and Q, the components' group lists, a table of exponentials Ψ, and the fractions x.
-- docs/DIFFERENCES.md: the combinatorial term's form; a group listed twice; the dropped variant.
use Rattle.std.specs.Prelude.{false, cond, ℕ, eqb, Float}
use Rattle.std.specs.Float.Ieee.{lt}
use Rattle.arithmetic.specs.Tables.{Table, Vector}
use Rattle.arithmetic.specs.Floats.{◌⊕◌, ◌⊖◌, ◌⊗◌, ◌⊘◌, dec, +0, one}
use Rattle.arithmetic.specs.Logarithm.{log_of}
use Rattle.arithmetic.specs.Sums.{fold, sum}
use Rattle.arithmetic.specs.Parameters.{td_at}
use Rattle.arithmetic.specs.declared.parameters.TdParam.{TdParam}
use Rattle.models.specs.declared.answers.Quantity.{Quantity}
use Rattle.models.specs.Answers.{quantity}
use Rattle.models.specs.Columns.{column_sum}
use Rattle.models.specs.Exponentials.{group_energy}

-- component i lists `length i` pairs: at place p the group `group i p` with the count `count i p`
pub record Groups : Type 0 where
  pub length : ℕ → ℕ
  pub group : ℕ → ℕ → ℕ
  pub count : Table

-- Σ_p count·S_group over the list of i: r_i for S = R, q_i for S = Q
unfoldable pub size : Groups → Vector → ℕ → Float
size c S i = sum (c.length i) (λ p. c.count i p ⊗ S (c.group i p))

-- Σ_j x_j s_j, s = r or q
unfoldable pub size_sum : ℕ → Groups → Vector → Vector → Float
size_sum n c S x = sum n (λ j. x j ⊗ size c S j)

-- 5
unfoldable pub five : Float
five = dec false 5 0

-- 1 - v + ln v - 5·q·(1 - v/f + ln(v/f))
unfoldable pub combinatorial_by : Float → Float → Float → Float
combinatorial_by q v f = one ⊖ v ⊕ log_of v ⊖ five ⊗ q ⊗ (one ⊖ v ⊘ f ⊕ log_of (v ⊘ f))

-- the same with v_i = r_i / Σ_j x_j r_j and f_i = q_i / Σ_j x_j q_j
unfoldable pub combinatorial : ℕ → Groups → Vector → Vector → Vector → ℕ → Float
combinatorial n c R Q x i = combinatorial_by (size c Q i) (size c R i ⊘ size_sum n c R x) (size c Q i ⊘ size_sum n c Q x)

-- all counts of component i
unfoldable pub counts : Groups → ℕ → Float
counts c i = sum (c.length i) (c.count i)

-- Σ_i x_i·count over the places where component i lists k: a group listed twice adds up
unfoldable pub amount : ℕ → Groups → Vector → ℕ → Float
amount n c x k = fold n +0 (λ i s. fold (c.length i) s (λ p s. cond (eqb (c.group i p) k) (s ⊕ x i ⊗ c.count i p) s))

-- Σ_i x_i·(all counts of i)
unfoldable pub amounts : ℕ → Groups → Vector → Float
amounts n c x = sum n (λ i. x i ⊗ counts c i)

-- X_k in the mixture; 0 where the amounts aren't above 0
unfoldable pub fraction : ℕ → Groups → Vector → ℕ → Float
fraction n c x k = cond (lt +0 (amounts n c x)) (amount n c x k ⊘ amounts n c x) +0

-- the count of k in pure component i: a group listed twice has its last count
unfoldable pub pure_count : Groups → ℕ → ℕ → Float
pure_count c i k = fold (c.length i) +0 (λ p s. cond (eqb (c.group i p) k) (c.count i p) s)

-- X_k in pure component i
unfoldable pub pure_fraction : Groups → ℕ → ℕ → Float
pure_fraction c i k = pure_count c i k ⊘ counts c i

-- Θ_k = Q_k X_k / Σ_m Q_m X_m
unfoldable pub theta : ℕ → Vector → Vector → ℕ → Float
theta ng Q X k = Q k ⊗ X k ⊘ sum ng (λ m. Q m ⊗ X m)

-- ln Γ_k = Q_k·(1 - ln(Σ_m Θ_m Ψ_mk) - Σ_m Θ_m Ψ_km / Σ_n Θ_n Ψ_nm)
unfoldable pub ln_group : ℕ → Vector → Table → Vector → ℕ → Float
ln_group ng Q Ψ Θ k = Q k ⊗ (one ⊖ log_of (column_sum ng Ψ Θ k) ⊖ sum ng (λ m. Θ m ⊗ Ψ k m ⊘ column_sum ng Ψ Θ m))

-- ln Γ_k in the mixture
unfoldable pub mixed : ℕ → ℕ → Groups → Vector → Table → Vector → ℕ → Float
mixed n ng c Q Ψ x = ln_group ng Q Ψ (theta ng Q (fraction n c x))

-- ln Γ_k in pure component i
unfoldable pub pure : ℕ → Groups → Vector → Table → ℕ → ℕ → Float
pure ng c Q Ψ i = ln_group ng Q Ψ (theta ng Q (pure_fraction c i))

-- Σ_p count·(ln Γ_k - ln Γ_k in pure i), k the group at place p of component i's list, P the pure ln Γ
unfoldable pub residual : Groups → Vector → Table → ℕ → Float
residual c M P i = sum (c.length i) (λ p. c.count i p ⊗ (M (c.group i p) ⊖ P i (c.group i p)))

unfoldable pub ln_gamma : ℕ → ℕ → Groups → Vector → Vector → Table → Table → Vector → ℕ → Float
ln_gamma n ng c R Q Ψ P x i = combinatorial n c R Q x i ⊕ residual c (mixed n ng c Q Ψ x) P i

-- g/RT = Σ_i x_i ln γ_i
unfoldable pub excess : ℕ → ℕ → Groups → Vector → Vector → Table → Table → Vector → Float
excess n ng c R Q Ψ P x = sum n (λ i. x i ⊗ ln_gamma n ng c R Q Ψ P x i)

-- over Ψ and a table P of the pure ln Γ
unfoldable pub unifac_by : ℕ → ℕ → Groups → Vector → Vector → Table → Table → Vector → Quantity → Float
unifac_by n ng c R Q Ψ P x q = quantity q (ln_gamma n ng c R Q Ψ P x) (excess n ng c R Q Ψ P x)

unfoldable pub unifac : ℕ → ℕ → Groups → Vector → Vector → Table → Vector → Quantity → Float
unifac n ng c R Q Ψ x q = unifac_by n ng c R Q Ψ (pure ng c Q Ψ) x q

-- at T, over the td entries a
unfoldable pub unifac_at : ℕ → ℕ → Groups → Vector → Vector → (ℕ → ℕ → TdParam) → Float → Vector → Quantity → Float
unifac_at n ng c R Q a T x q = unifac n ng c R Q (group_energy (λ m k. td_at (a m k) T) T) x q
