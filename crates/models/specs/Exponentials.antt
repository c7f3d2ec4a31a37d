-- The exponentials that a mixture keeps: document 01, "Models". They read T and, for E_ij, a_ij and a_ii;
-- for G_ij, α_ij and τ_ij; for Ψ_mn, a_mn.
use Rattle.std.specs.Prelude.{ℕ, Float}
use Rattle.std.specs.Float.Ieee.{neg}
use Rattle.arithmetic.specs.Tables.{Table}
use Rattle.arithmetic.specs.Floats.{◌⊖◌, ◌⊗◌, ◌⊘◌}
use Rattle.arithmetic.specs.Exponential.{exp_of}

-- E_ij = exp(-(a_ij - a_ii)/T), of Wilson and UNIQUAC
unfoldable pub energy : Table → Float → ℕ → ℕ → Float
energy a T i j = exp_of (neg (a i j ⊖ a i i) ⊘ T)

-- G_ij = exp(-α_ij·τ_ij), of NRTL, τ at T
unfoldable pub nonrandomness : Table → Table → ℕ → ℕ → Float
nonrandomness α τ i j = exp_of (neg (α i j) ⊗ τ i j)

-- Ψ_mn = exp(-a_mn/T), of UNIFAC, a at T
unfoldable pub group_energy : Table → Float → ℕ → ℕ → Float
group_energy a T m n = exp_of (neg (a m n) ⊘ T)
