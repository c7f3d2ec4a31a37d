-- What exp's k is cut from is below 1493 in size.
use Rattle.std.proofs.Common.{◌*◌, ◌≤◌, Bool, true, false, cond, not, T, pos, arith, lit≤, nltb→le}
use lib.Ieee.{Float, nan, inf, fin, up, down, lt, is_nan, neg, round}
use Rattle.arithmetic.specs.Floats.{◌⊕◌, ◌⊗◌, dec, half}
use Rattle.arithmetic.specs.Exponential.{highest, lowest, reciprocal, rounding}
use Rattle.arithmetic.proofs.Within.{Within, mul-within, add-within}

abbrev pub Inside : Float → Type 0
Inside v = T (not (is_nan v)) × T (not (lt highest v)) × T (not (lt v lowest))

pub in_range_lem : (v : Float) → Inside v → Within 746 v
unfolding is_nan lt highest lowest dec round
in_range_lem nan h = absurd h.0
in_range_lem (inf true) h = absurd h.2
in_range_lem (inf false) h = absurd h.1
in_range_lem (fin true m e) h =
    let a : m * up e * 8796093022208 ≤ 6554261109157969 * 1 * down e = nltb→le (6554261109157969 * 1 * down e) (m * up e * 8796093022208) h.2 in
    omega arith
in_range_lem (fin false m e) h =
    let a : m * up e * 8796093022208 ≤ 6243314768165359 * 1 * down e = nltb→le (6243314768165359 * 1 * down e) (m * up e * 8796093022208) h.1 in
    omega arith

pub reciprocal-within : Within 2 reciprocal
unfolding reciprocal dec round
reciprocal-within = lit≤ tt

rounding-within : (t : Bool) → Within 1 (cond t (neg half) half)
unfolding half dec round neg
rounding-within true = lit≤ tt
rounding-within false = lit≤ tt

pub cut_within : (v : Float) → Inside v → Within 1493 (reciprocal ⊗ v ⊕ rounding v)
unfolding rounding
cut_within v h =
    add-within 1492 1 (reciprocal ⊗ v) (rounding v) (mul-within 2 746 reciprocal v reciprocal-within (in_range_lem v h) (lit≤ tt)) (rounding-within (lt v (fin false 0 (pos 0)))) (lit≤ tt)
