-- Document 01's worked values, "Proved together as one conjunction". A proof is in proofs/WorkedValues.
use Rattle.std.specs.Prelude.{◌≡◌, true, false, [], ◌∷◌}
use Rattle.std.specs.Float.{nan, inf}
use Rattle.std.specs.Float.Ieee.{neg}
use Rattle.arithmetic.specs.Floats.{◌⊕◌, dec, +0, one, two, half, L1, L2}
use Rattle.arithmetic.specs.Exponential.{exp_of}
use Rattle.arithmetic.specs.Logarithm.{log_of}
use Rattle.models.specs.Faults.{usual_tolerance, check_fault}

-- exp 0 = 1; exp -0 = 1; exp 709.79 infinite; exp -746 = +0; log 1 = +0; log 0 = -infinity; log -1 = NaN; log 2 = L2 + L1;
-- the check of (0.25, 0.75) and (2, -1) passes, (0.5, 0.25) gives 6, (NaN) passes
abbrev pub Worked : Type 0
Worked =
    (exp_of +0 ≡ one) × (exp_of (neg +0) ≡ one) × (exp_of (dec false 70979 2) ≡ inf false) × (exp_of (dec true 746 0) ≡ +0)
    × (log_of one ≡ +0) × (log_of +0 ≡ inf true) × (log_of (neg one) ≡ nan) × (log_of two ≡ L2 ⊕ L1)
    × (check_fault usual_tolerance (dec false 25 2 ∷ dec false 75 2 ∷ []) ≡ 0)
    × (check_fault usual_tolerance (two ∷ neg one ∷ []) ≡ 0)
    × (check_fault usual_tolerance (half ∷ dec false 25 2 ∷ []) ≡ 6)
    × (check_fault usual_tolerance (nan ∷ []) ≡ 0)
