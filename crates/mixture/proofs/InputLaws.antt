-- What the part of a table that starts at a row holds.
use Rattle.std.proofs.Common.{◌≡◌, ap, ℕ, ◌+◌, ◌-◌, ◌*◌, ◌<◌, ◌≤◌, List, Float, length, mul-le-mul, arith}
use Rattle.std.specs.Float.Ieee.{neg}
use Rattle.arithmetic.specs.Floats.{◌⊘◌}
use Rattle.arithmetic.specs.Parameters.{td_by}
use Rattle.arithmetic.specs.Tables.{from}
use Rattle.arithmetic.specs.declared.parameters.TdParam.{TdParam}
use Rattle.models.specs.Values.{five_at}
use Rattle.models.proofs.ParameterLaws.{five-from}
use Rattle.mixture.specs.Steps.Inputs.{group_argument}

-- row i ends within what the last of w rows ends within
pub row_ends : {w i n : ℕ} (s k : ℕ) → i < w → (w - 1) * s + k ≤ n → i * s + k ≤ n
row_ends {w} {i} s k b h =
    let up : i ≤ w - 1 = omega arith in
    let same : s ≤ s = omega arith in
    omega (arith, mul-le-mul up same)

-- place j·5 of the part from row i on is place i·stride + j·5 of the entries
pub group_row : (w s : ℕ) (entries : List Float) (T L : Float) (i j : ℕ) → i < w → j < w → (w - 1) * s + w * 5 ≤ length entries
    → neg (td_by (five_at (from (i * s) entries) (j * 5)) T L) ⊘ T ≡ group_argument s entries T L i j
group_row w s entries T L i j b d h =
    ap (λ (p : TdParam). neg (td_by p T L) ⊘ T) (five-from entries (i * s) (j * 5) (omega (arith, row_ends s (w * 5) b h)))
