-- A model's cells, and each cell's inputs: document 01, "Mixture".
use Rattle.std.specs.Prelude.{Bool, true, not, List, [], ◌∷◌, ℕ, eqb}
use Rattle.models.specs.declared.model.Model.{Model}
use Rattle.models.specs.Model.{by_model, table_width}
use Rattle.mixture.specs.Holdings.{Held, Name, temperature, entry, td_entry}

-- ---- cells: E_ij or G_ij off the diagonal, n·(n - 1) cells, or Ψ_mn, ng·ng cells

unfoldable pub width : Held → ℕ
width d = table_width d.model d.n d.ng

abbrev pub has_cell : Model → ℕ → ℕ → Bool
has_cell m i j = by_model m (not (eqb i j)) (not (eqb i j)) (not (eqb i j)) true

unfoldable pub is_cell : Held → ℕ → ℕ → Bool
is_cell d = has_cell d.model

-- the inputs of cell i, j: T and, for E_ij, a_ij and a_ii; for G_ij, α_ij and the five of τ_ij; for Ψ_ij, the five of a_ij
unfoldable pub inputs : Model → ℕ → ℕ → List Name
inputs m i j =
    temperature ∷ by_model m (entry i j ∷ entry i i ∷ []) (entry i j ∷ entry i i ∷ []) (entry i j ∷ td_entry i j ∷ []) (td_entry i j ∷ [])
