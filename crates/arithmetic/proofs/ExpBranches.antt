-- Which line of `exp_of` holds, by the tests that led there.
use Rattle.std.proofs.Common.{◌≡◌, true, false, ◌&&◌, pos, negsuc, refl}
use lib.Ieee.{Float, nan, inf, fin, lt, le, ne, is_nan}
use lib.Ieee.Compare.{differs_from_itself}
use Rattle.arithmetic.specs.Floats.{◌⊕◌, one}
use Rattle.arithmetic.proofs.Tests.{passed}
use Rattle.arithmetic.proofs.AbsLaws.{abs-le}
use Rattle.arithmetic.specs.Exponential.{exp_of, highest, lowest, scaled, reduced, exponent}

pub a_nan : (v : Float) → ne v v ≡ true → v ≡ nan
a_nan v e = differs_from_itself v (passed e)

pub exp_nan : nan ≡ exp_of nan
unfolding exp_of is_nan
exp_nan = refl

module _ (v : Float) (n : is_nan v ≡ false) where
  pub exp_high : lt highest v ≡ true → inf false ≡ exp_of v
  unfolding exp_of
  exp_high h = rw (n, h)

  module _ (h : lt highest v ≡ false) where
    pub exp_low : lt v lowest ≡ true → fin false 0 (pos 0) ≡ exp_of v
    unfolding exp_of
    exp_low l = rw (n, h, l)

    module _ (l : lt v lowest ≡ false) where
      pub exp_tiny : le (fin true 1 (negsuc 27)) v && le v (fin false 1 (negsuc 27)) ≡ true → one ⊕ v ≡ exp_of v
      unfolding exp_of
      exp_tiny t = rw (n, h, l, abs-le v 1 (negsuc 27), t)

      pub exp_rest : le (fin true 1 (negsuc 27)) v && le v (fin false 1 (negsuc 27)) ≡ false → scaled (reduced v (exponent v)) (exponent v) ≡ exp_of v
      unfolding exp_of
      exp_rest t = rw (n, h, l, abs-le v 1 (negsuc 27), t)
