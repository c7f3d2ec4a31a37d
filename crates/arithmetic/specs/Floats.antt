-- f64 arithmetic as document 01, "Arithmetic", writes it: each operation rounds once (IEEE 754, nearest even).
use Rattle.std.specs.Prelude.{ℕ, ◌^◌, Bool, false, ℤ, pos, Float}
use Rattle.std.specs.Float.{nan, inf, fin, binary64}
use Rattle.std.specs.Float.Ieee.{add, sub, mul, div, round}

infixl 6 ◌⊕◌ ◌⊖◌
infixl 7 ◌⊗◌ ◌⊘◌
abbrev pub ◌⊕◌ : Float → Float → Float
a ⊕ b = add binary64 a b

abbrev pub ◌⊖◌ : Float → Float → Float
a ⊖ b = sub binary64 a b

abbrev pub ◌⊗◌ : Float → Float → Float
a ⊗ b = mul binary64 a b

abbrev pub ◌⊘◌ : Float → Float → Float
a ⊘ b = div binary64 a b

-- |v|
unfoldable pub abs : Float → Float
abs nan = nan
abs (inf s) = inf false
abs (fin s m e) = fin false m e

-- a decimal of a document: the f64 nearest to n / 10^d, negative where s is true
unfoldable pub dec : Bool → ℕ → ℕ → Float
dec s n d = round binary64 s n (10 ^ d)

-- the float 2^k
abbrev pub two^ : ℤ → Float
two^ k = fin false 1 k

abbrev pub +0 : Float
+0 = fin false 0 (pos 0)

unfoldable pub one : Float
one = dec false 1 0

unfoldable pub two : Float
two = dec false 2 0

-- 0.5
unfoldable pub half : Float
half = dec false 5 1

-- L1 and L2: ln 2 in two parts
unfoldable pub L1 : Float
L1 = dec false 693147180369123816490 21

unfoldable pub L2 : Float
L2 = dec false 190821492927058770002 30
