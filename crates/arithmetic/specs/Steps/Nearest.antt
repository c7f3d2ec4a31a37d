-- exp's k where rounding gives it, without a cut: an inner step of the code.
use Rattle.std.specs.Prelude.{true, false, T, pos, negsuc, Float}
use Rattle.std.specs.Float.{fin}
use Rattle.std.specs.Float.Ieee.{lt, le, neg}
use Rattle.arithmetic.specs.Floats.{◌⊕◌, ◌⊖◌, ◌⊗◌}
use Rattle.arithmetic.specs.Exponential.{reciprocal}

-- 1.5·2^52: the floats about it are whole numbers
abbrev pub shift : Float
shift = fin false 3 (pos 51)

-- the whole number nearest to u
unfoldable pub nearest : Float → Float
nearest u = u ⊕ shift ⊖ shift

-- 1/2 - 2^-30
abbrev pub margin : Float
margin = fin false 536870911 (negsuc 29)

-- v is from -500 to 500, and v over ln 2 is no closer than 2^-30 to the middle between two whole numbers
pub record Easy (v : Float) : Type 0 where
  pub least : T (le (fin true 125 (pos 2)) v)
  pub most : T (le v (fin false 125 (pos 2)))
  pub above : T (lt (neg margin) (reciprocal ⊗ v ⊖ nearest (reciprocal ⊗ v)))
  pub below : T (lt (reciprocal ⊗ v ⊖ nearest (reciprocal ⊗ v)) margin)
