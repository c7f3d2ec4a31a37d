-- Small strips with their texts.
use Rattle.std.specs.Prelude.{◌≡◌, [], ◌∷◌}
use Rattle.strip.specs.Text.{ascii}
use Rattle.strip.specs.Run.{transcript}

-- an empty strip; a cut word; a query with no model; a query, and then a byte; a record that begins with kind 12; a Wilson load
-- with n = 0; a UNIFAC load with ng = 0, its list there and missing
abbrev pub WorkedTexts : Type 0
WorkedTexts = (transcript [] ≡ [])
    × (transcript (1 ∷ []) ≡ ascii "broken\n")
    × (transcript (0 ∷ 0 ∷ 0 ∷ 0xb0 ∷ []) ≡ ascii "refused 8\n")
    × (transcript (0 ∷ 0 ∷ 0 ∷ 0xb0 ∷ 7 ∷ []) ≡ ascii "refused 8\nbroken\n")
    × (transcript (0 ∷ 0 ∷ 0 ∷ 0xc0 ∷ []) ≡ ascii "broken\n")
    × (transcript (0 ∷ 0 ∷ 0 ∷ 0x10 ∷ []) ≡ ascii "refused 2\n")
    × (transcript (1 ∷ 0 ∷ 0 ∷ 0x40 ∷ 0 ∷ 0 ∷ 0 ∷ 0xc0 ∷ []) ≡ ascii "refused 2\n")
    × (transcript (1 ∷ 0 ∷ 0 ∷ 0x40 ∷ []) ≡ ascii "broken\n")
