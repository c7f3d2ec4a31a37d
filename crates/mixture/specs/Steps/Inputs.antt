-- What the entries of a table of exponentials are the exp of, by row and column.
use Rattle.std.specs.Prelude.{List, ℕ, ◌+◌, ◌*◌, Float}
use Rattle.std.specs.Float.Ieee.{neg}
use Rattle.arithmetic.specs.Floats.{◌⊖◌, ◌⊗◌, ◌⊘◌}
use Rattle.arithmetic.specs.Parameters.{td_by}
use Rattle.arithmetic.specs.Tables.{Table}
use Rattle.models.specs.Values.{five_at}

-- E_ij of Wilson and UNIQUAC
abbrev pub energy_argument : Table → Float → Table
energy_argument a T i j = neg (a i j ⊖ a i i) ⊘ T

-- G_ij of NRTL, τ at T
abbrev pub nonrandomness_argument : Table → Table → Table
nonrandomness_argument α τ i j = neg (α i j) ⊗ τ i j

-- Ψ_ij of UNIFAC, of td entries, five each, by rows that start `stride` places apart; L is log(T)
abbrev pub group_argument : ℕ → List Float → Float → Float → Table
group_argument stride entries T L i j = neg (td_by (five_at entries (i * stride + j * 5)) T L) ⊘ T
