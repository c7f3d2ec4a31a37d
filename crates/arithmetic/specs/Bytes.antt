-- An f64 as eight bytes, the lowest first: document 01, "Strip and program" (two words, the low half first) and the exported calls.
use Rattle.std.specs.Prelude.{ℕ, zero, suc, ◌+◌, ◌*◌, ◌/◌, cond, List, [], ◌∷◌, ◌++◌, length, from_bits, is_nan, slice_index, to_bits, Float}
use Rattle.std.specs.Float.{binary64}

-- a 32-bit word: four bytes, the lowest first
unfoldable pub word_at : List ℕ → ℕ → ℕ
word_at s p = slice_index s p + 256 * slice_index s (p + 1) + 65536 * slice_index s (p + 2) + 16777216 * slice_index s (p + 3)

-- an f64: two words, the low half first
unfoldable pub float_at : List ℕ → ℕ → Float
float_at s p = from_bits binary64 (word_at s p + 4294967296 * word_at s (p + 4))

-- its bits, with 7FF8000000000000 for NaN
unfoldable pub bits_of : Float → ℕ
bits_of v = cond (is_nan v) 9221120237041090560 (to_bits binary64 v)

-- n of them from place p on
unfoldable pub floats_at : List ℕ → ℕ → ℕ → List Float
floats_at s p zero = []
floats_at s p (suc n) = floats_at s p n ++ (float_at s (p + 8 * n) ∷ [])

-- the whole eights of a slice
unfoldable pub floats : List ℕ → List Float
floats s = floats_at s 0 (length s / 8)
