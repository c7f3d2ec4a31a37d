-- Document 01's worked values of exp and log, over the definitions. antt computes an operation on two written-out numbers at
-- once, but shares nothing: an operation on the result of another computes that one many times over. So log 2 goes step by
-- step, with each number written out.
use Rattle.std.proofs.Common.{◌≡◌, true, false, pos, negsuc, refl}
use lib.Ieee.{Float, nan, inf, fin, binary64, add, mul, sub, div, lt, le, eq, is_nan, neg, of_int, of_bits, round, size}
use Rattle.arithmetic.specs.Floats.{◌⊕◌, ◌⊖◌, ◌⊗◌, ◌⊘◌, abs, dec, +0, one, two, L1, L2}
use Rattle.arithmetic.proofs.logarithm.LogBranches.{rest}
use Rattle.arithmetic.proofs.Powers.{one-is, two_is, half_is}
use Rattle.arithmetic.specs.Exponential.{exp_of, highest, lowest}
use Rattle.arithmetic.specs.Logarithm.{log_of, significand, binade, log_by, remainder, places, M, G1, G2, G3, G4, G5, G6, G7}

abbrev Z : Float
Z = fin false 0 (pos 0)

ZZ : Z ⊗ Z ≡ Z
unfolding mul
ZZ = refl

Z-Z : Z ⊕ Z ≡ Z
unfolding add
Z-Z = refl

-- a coefficient's number, which 0 absorbs as a product and leaves as a sum
abbrev Coefficient : Float → Float → Type 0
Coefficient G n = (G ≡ n) × (Z ⊗ n ≡ Z) × (n ⊕ Z ≡ n)

G1-is : Coefficient G1 (fin false 6004799503160723 (negsuc 52))
unfolding G1 dec round mul add
G1-is = (refl, refl, refl)

G2-is : Coefficient G2 (fin false 1801439850921601 (negsuc 51))
unfolding G2 dec round mul add
G2-is = (refl, refl, refl)

G3-is : Coefficient G3 (fin false 5146971033736025 (negsuc 53))
unfolding G3 dec round mul add
G3-is = (refl, refl, refl)

G4-is : Coefficient G4 (fin false 8006390766270639 (negsuc 54))
unfolding G4 dec round mul add
G4-is = (refl, refl, refl)

G5-is : Coefficient G5 (fin false 3275661152453103 (negsuc 53))
unfolding G5 dec round mul add
G5-is = (refl, refl, refl)

G6-is : Coefficient G6 (fin false 5517391500461727 (negsuc 54))
unfolding G6 dec round mul add
G6-is = (refl, refl, refl)

G7-is : Coefficient G7 (fin false 1332903234475153 (negsuc 52))
unfolding G7 dec round mul add
G7-is = (refl, refl, refl)

L1-is : L1 ≡ fin false 2977044471 (negsuc 31)
unfolding L1 dec round
L1-is = refl

L2-is : L2 ≡ fin false 3691024475790907 (negsuc 83)
unfolding L2 dec round
L2-is = refl

half-Z : fin false 1 (negsuc 0) ⊗ Z ≡ Z
unfolding mul
half-Z = refl

one-one : fin false 1 (pos 0) ⊖ fin false 1 (pos 0) ≡ Z
unfolding sub
one-one = refl

two-Z : fin false 1 (pos 1) ⊕ Z ≡ fin false 1 (pos 1)
unfolding add
two-Z = refl

Z-two : Z ⊘ fin false 1 (pos 1) ≡ Z
unfolding div
Z-two = refl

one-L1 : fin false 1 (pos 0) ⊗ fin false 2977044471 (negsuc 31) ≡ fin false 2977044471 (negsuc 31)
unfolding mul
one-L1 = refl

one-L2 : fin false 1 (pos 0) ⊗ fin false 3691024475790907 (negsuc 83) ≡ fin false 3691024475790907 (negsuc 83)
unfolding mul
one-L2 = refl

Z-L2 : Z ⊕ fin false 3691024475790907 (negsuc 83) ≡ fin false 3691024475790907 (negsuc 83)
unfolding add
Z-L2 = refl

L2-Z : fin false 3691024475790907 (negsuc 83) ⊖ Z ≡ fin false 3691024475790907 (negsuc 83)
unfolding sub
L2-Z = refl

L2+Z : fin false 3691024475790907 (negsuc 83) ⊕ Z ≡ fin false 3691024475790907 (negsuc 83)
unfolding add
L2+Z = refl

remainder-Z : remainder Z ≡ Z
unfolding remainder
remainder-Z = simp (ZZ, Z-Z, G1-is.0, G1-is.1, G1-is.2, G2-is.0, G2-is.1, G2-is.2, G3-is.0, G3-is.1, G3-is.2, G4-is.0, G4-is.1, G4-is.2, G5-is.0, G5-is.1, G5-is.2, G6-is.0, G6-is.1, G6-is.2, G7-is.0, G7-is.1, G7-is.2)

n-one : of_int binary64 (pos 1) ≡ fin false 1 (pos 0)
unfolding of_int
n-one = refl

log_by-one : log_by (fin false 1 (pos 0)) (pos 1) ≡ L2 ⊕ L1
unfolding log_by
log_by-one = simp (L1-is, L2-is, one-is, two_is, half_is, one-one, half-Z, ZZ, two-Z, Z-two, remainder-Z, Z-Z, n-one, one-L1, one-L2, Z-L2, L2-Z, L2+Z)

places-one : places 1 ≡ 0
unfolding places size M of_bits lt
places-one = refl

rest-two : rest (fin false 1 (pos 1)) ≡ L2 ⊕ L1
unfolding significand binade
rest-two = rw places-one log_by-one

pub worked :
    (exp_of +0 ≡ one)
    × (exp_of (neg +0) ≡ one)
    × (exp_of (dec false 70979 2) ≡ inf false)
    × (exp_of (dec true 746 0) ≡ +0)
    × (log_of one ≡ +0)
    × (log_of +0 ≡ inf true)
    × (log_of (neg one) ≡ nan)
    × (log_of two ≡ L2 ⊕ L1)
unfolding exp_of highest lowest one two dec round abs add neg lt le eq is_nan log_of
worked = (refl, refl, refl, refl, refl, refl, refl, rest-two)
