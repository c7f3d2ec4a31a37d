-- exp(v), step by step as document 01, "Arithmetic", has it.
use Rattle.std.specs.Prelude.{true, false, cond, ℤ, pos, negsuc, ◌+ℤ◌, ◌-ℤ◌, int_lt, is_nan, Float}
use Rattle.std.specs.Float.{nan, inf, binary64}
use Rattle.std.specs.Float.Ieee.{lt, le, neg, of_int, to_signed}
use Rattle.arithmetic.specs.Floats.{◌⊕◌, ◌⊖◌, ◌⊗◌, ◌⊘◌, abs, dec, two^, +0, one, two, half, L1, L2}

unfoldable pub P1 : Float
P1 = dec false 166666666666666019037 21

unfoldable pub P2 : Float
P2 = dec true 277777777770155933842 23

unfoldable pub P3 : Float
P3 = dec false 661375632143793436117 25

unfoldable pub P4 : Float
P4 = dec true 165339022054652515390 26

unfoldable pub P5 : Float
P5 = dec false 413813679705723846039 28

-- above it exp gives +infinity
unfoldable pub highest : Float
highest = dec false 709782712893383973096 18

-- below it exp gives +0
unfoldable pub lowest : Float
lowest = dec true 74513321910194110842 17

-- 1.4426950408889634, the reciprocal of ln 2
unfoldable pub reciprocal : Float
reciprocal = dec false 14426950408889634 16

-- h
unfoldable pub rounding : Float → Float
rounding v = cond (lt v +0) (neg half) half

-- k: reciprocal·v + h cut toward zero (to an i64, which it fits wherever exp_of asks)
unfoldable pub exponent : Float → ℤ
exponent v = to_signed 63 (reciprocal ⊗ v ⊕ rounding v)

-- c, of r
unfoldable pub correction : Float → Float
correction r =
    let q = r ⊗ r in
    r ⊖ q ⊗ (P1 ⊕ q ⊗ (P2 ⊕ q ⊗ (P3 ⊕ q ⊗ (P4 ⊕ q ⊗ P5))))

-- y, of v and k
unfoldable pub reduced : Float → ℤ → Float
reduced v k =
    let hi = v ⊖ of_int binary64 k ⊗ L1 in
    let lo = of_int binary64 k ⊗ L2 in
    let r = hi ⊖ lo in
    let c = correction r in
    one ⊕ (r ⊗ c ⊘ (two ⊖ c) ⊖ lo ⊕ hi)

-- y·2^k
unfoldable pub scaled : Float → ℤ → Float
scaled y k =
    cond (int_lt (pos 1023) k) (y ⊗ two^ (pos 1023) ⊗ two^ (k -ℤ pos 1023))
    (cond (int_lt k (negsuc 1021)) (y ⊗ two^ (k +ℤ pos 1000) ⊗ two^ (negsuc 999))
    (y ⊗ two^ k))

-- negsuc n is -(n + 1): two^ (negsuc 27) is 2^-28
unfoldable pub exp_of : Float → Float
exp_of v =
    cond (is_nan v) nan
    (cond (lt highest v) (inf false)
    (cond (lt v lowest) +0
    (cond (le (abs v) (two^ (negsuc 27))) (one ⊕ v)
    (scaled (reduced v (exponent v)) (exponent v)))))
