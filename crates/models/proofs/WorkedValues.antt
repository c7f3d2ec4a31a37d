-- Document 01's worked values hold: exp and log by arithmetic's facts, the checks by computing each sum step by step.
use mathlib.Core.Path.{◌≡◌, refl}
use mathlib.Core.Bool.{false}
use mathlib.Core.List.{List, [], ◌∷◌}
use Prim.Native.Nat.{ℕ}
use lib.IntN.{negsuc}
use lib.Ieee.{Float, nan, fin, add, sub, neg, lt, round}
use Rattle.arithmetic.specs.Floats.{◌⊕◌, abs, dec, +0, one, two, half}
use Rattle.arithmetic.specs.Sums.{fold, sum, total}
use Rattle.arithmetic.proofs.WorkedValues.{worked}
use Rattle.models.specs.Faults.{usual_tolerance, sum_fault, composition_fault, check_fault}
use Rattle.models.specs.WorkedValues.{Worked}
use Rattle.models.proofs.ToleranceLaws.{usual_passes}

-- a composition of two, its sum step by step
two_of : (a b s t : Float) {k : ℕ} → +0 ⊕ a ≡ s → s ⊕ b ≡ t → sum_fault usual_tolerance t ≡ k → composition_fault usual_tolerance (a ∷ b ∷ []) ≡ k
unfolding composition_fault total sum fold
two_of a b s t p q r = rw (p, q, r)

one_of : (a s : Float) {k : ℕ} → +0 ⊕ a ≡ s → sum_fault usual_tolerance s ≡ k → composition_fault usual_tolerance (a ∷ []) ≡ k
unfolding composition_fault total sum fold
one_of a s p r = rw (p, r)

one_passes : sum_fault usual_tolerance one ≡ 0
unfolding sum_fault one dec round sub abs lt usual_tolerance
one_passes = refl

quarters : composition_fault usual_tolerance (dec false 25 2 ∷ dec false 75 2 ∷ []) ≡ 0
unfolding dec round add one
quarters = two_of (dec false 25 2) (dec false 75 2) (fin false 1 (negsuc 1)) one refl refl one_passes

signed : composition_fault usual_tolerance (two ∷ neg one ∷ []) ≡ 0
unfolding dec round add neg one two
signed = two_of two (neg one) two one refl refl one_passes

short_of : composition_fault usual_tolerance (half ∷ dec false 25 2 ∷ []) ≡ 6
unfolding dec round add sub abs lt half one sum_fault usual_tolerance
short_of = two_of half (dec false 25 2) half (fin false 3 (negsuc 1)) refl refl refl

no_number : composition_fault usual_tolerance (nan ∷ []) ≡ 0
unfolding add sub abs lt sum_fault usual_tolerance dec round
no_number = one_of nan nan refl refl

-- the check called alone, where the usual tolerance passes
passes : (x : List Float) → composition_fault usual_tolerance x ≡ 0 → check_fault usual_tolerance x ≡ 0
unfolding check_fault
passes x e = rw (usual_passes, e)

is-off : (x : List Float) → composition_fault usual_tolerance x ≡ 6 → check_fault usual_tolerance x ≡ 6
unfolding check_fault
is-off x e = rw (usual_passes, e)

pub all-worked : Worked
all-worked = (
  worked.0,
  worked.1,
  worked.2,
  worked.3,
  worked.4,
  worked.5,
  worked.6,
  worked.7,
  passes _ quarters,
  passes _ signed,
  is-off _ short_of,
  passes _ no_number,
)
