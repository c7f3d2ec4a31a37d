-- What the plain calls, the check of a composition and a load decline: document 01, "What each call declines". 0 for nothing.
use Rattle.std.specs.Prelude.{Bool, true, false, ◌&&◌, ◌||◌, cond, List, ℕ, zero, suc, leb, ltb, eqb, length, get_or, Float}
use Rattle.std.specs.Float.Ieee.{lt, is_nan}
use Rattle.arithmetic.specs.Floats.{◌⊖◌, abs, dec, +0, one}
use Rattle.arithmetic.specs.Sums.{total}
use Rattle.arithmetic.specs.Tables.{at, from}
use Rattle.models.specs.declared.answers.Quantity.{Quantity}
use Rattle.models.specs.declared.answers.Quantity.TheVariants.{LnGamma, Gamma, ExcessGibbs}
use Rattle.models.specs.Limits.{most_components, most_groups, most_listed}
use Rattle.models.specs.Answers.{first, first_to}
use Rattle.models.specs.Model.{by_model, ModelData, size_of}
use Rattle.models.specs.Values.{counts_at, start, unifac_size}

-- ---- the fractions, as `check_composition` of the source, with a tolerance ε (document 02, Change 3)

-- 1e-6: the source's, and a mixture's after a load
unfoldable pub usual_tolerance : Float
usual_tolerance = dec false 1 6

-- 1e-3
unfoldable pub widest_tolerance : Float
widest_tolerance = dec false 1 3

-- 14: NaN, below 0 (-0 passes) or above 1e-3
unfoldable pub tolerance_fault : Float → ℕ
tolerance_fault ε = cond (is_nan ε || (lt ε +0 || lt widest_tolerance ε)) 14 0

-- 6, |sum - 1| > ε (a NaN sum passes)
unfoldable pub sum_fault : Float → Float → ℕ
sum_fault ε s = cond (lt ε (abs (s ⊖ one))) 6 0

-- 5, empty; then 6
unfoldable pub composition_fault : Float → List Float → ℕ
composition_fault ε x = cond (eqb (length x) 0) 5 (sum_fault ε (total x))

-- the check called alone: 14, then 5 and 6
unfoldable pub check_fault : Float → List Float → ℕ
check_fault ε x = first (tolerance_fault ε) (composition_fault ε x)

-- 5 and 6 of the composition under any ε; 7, length not n
unfoldable pub mix_fault : Float → ℕ → List Float → ℕ
mix_fault ε n x = first (composition_fault ε x) (cond (eqb (length x) n) 0 7)

-- 7: no component i (the excess energy has no i)
unfoldable pub index_fault : ℕ → Quantity → ℕ
index_fault n (LnGamma i) = cond (ltb i n) 0 7
index_fault n (Gamma i) = cond (ltb i n) 0 7
index_fault n ExcessGibbs = 0

-- 14 of the tolerance; 5, 6 and 7 of the fractions; then 7: no component i
unfoldable pub fractions_fault : Float → ℕ → List Float → Quantity → ℕ
fractions_fault ε n x q = first (tolerance_fault ε) (first (mix_fault ε n x) (index_fault n q))

-- ---- a model

abbrev pub between : ℕ → ℕ → ℕ → Bool
between a b k = leb a k && leb k b

-- 2: n outside 1–12, or values not of the model's size
unfoldable pub shape_fault : ℕ → ℕ → List Float → ℕ
shape_fault n size values = cond (between 1 most_components n && eqb (length values) size) 0 2

-- all below n pass
unfoldable pub all_to : ℕ → (ℕ → Bool) → Bool
all_to zero p = true
all_to (suc n) p = all_to n p && p n

-- 2, for UNIFAC: n outside 1–12, ng outside 1–32, a list over 12, or a slice of the wrong length
unfoldable pub lists_fault : ℕ → ℕ → List ℕ → List ℕ → List Float → ℕ
lists_fault n ng lens groups values =
    cond (between 1 most_components n && between 1 most_groups ng && eqb (length lens) n && all_to n (λ i. leb (get_or lens i 0) most_listed)
    && eqb (length groups) (start lens n) && eqb (length values) (unifac_size ng (start lens n))) 0 2

-- 3, the group at place p is ≥ ng, else 4, its count is < 0 (-0 and NaN pass)
unfoldable pub place_fault : ℕ → List ℕ → List Float → ℕ → ℕ
place_fault ng groups counts p = cond (ltb (get_or groups p 0) ng) (cond (lt (at counts p) +0) 4 0) 3

-- the first place at fault, by component and place, decides
unfoldable pub groups_fault : ℕ → List ℕ → List Float → ℕ
groups_fault ng groups counts = first_to (length groups) (place_fault ng groups counts)

unfoldable pub unifac_fault : ℕ → ℕ → List ℕ → List ℕ → List Float → ℕ
unifac_fault n ng lens groups values = first (lists_fault n ng lens groups values) (groups_fault ng groups (from (counts_at ng) values))

-- a load: 2; then 3 or 4
unfoldable pub data_fault : ModelData → ℕ
data_fault d =
    let shape = shape_fault d.n (size_of d) d.values in
    by_model d.model shape shape shape (unifac_fault d.n d.ng d.lens d.groups d.values)
