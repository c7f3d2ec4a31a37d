-- Which tolerances pass, by the code's tests in turn.
use mathlib.Core.Path.{◌≡◌, refl}
use mathlib.Core.Bool.{true, false}
use lib.Ieee.{Float, lt, ne, is_nan, round}
use Rattle.arithmetic.specs.Floats.{dec, +0}
use Rattle.arithmetic.proofs.ByteLaws.{no_nan}
use Rattle.arithmetic.proofs.ExpBranches.{a_nan}
use Rattle.models.specs.Faults.{usual_tolerance, widest_tolerance, tolerance_fault}

module _ (ε : Float) where
  pub tolerance_nan : ne ε ε ≡ true → 14 ≡ tolerance_fault ε
  unfolding tolerance_fault is_nan
  tolerance_nan e = rw (a_nan ε e)

  module _ (e : ne ε ε ≡ false) where
    pub tolerance-below : lt ε +0 ≡ true → 14 ≡ tolerance_fault ε
    unfolding tolerance_fault
    tolerance-below p = rw (no_nan ε e, p)

    pub tolerance-above : lt ε +0 ≡ false → lt widest_tolerance ε ≡ true → 14 ≡ tolerance_fault ε
    unfolding tolerance_fault
    tolerance-above p q = rw (no_nan ε e, p, q)

    pub tolerance-passes : lt ε +0 ≡ false → lt widest_tolerance ε ≡ false → 0 ≡ tolerance_fault ε
    unfolding tolerance_fault
    tolerance-passes p q = rw (no_nan ε e, p, q)

-- a load's own
pub usual_passes : tolerance_fault usual_tolerance ≡ 0
unfolding tolerance_fault usual_tolerance widest_tolerance dec round is_nan lt
usual_passes = refl
