-- log(v), step by step as document 01, "Arithmetic", has it.
use Rattle.std.specs.Prelude.{◌≡◌, ℕ, ◌-◌, ◌<◌, true, false, cond, ◌||◌, T, ℤ, pos, ◌+ℤ◌, neg_ℤ, from_bits, is_nan, Float}
use Rattle.std.specs.Float.{nan, inf, fin, binary64}
use Rattle.std.specs.Float.Ieee.{lt, le, eq, of_int, size}
use Rattle.arithmetic.specs.Floats.{◌⊕◌, ◌⊖◌, ◌⊗◌, ◌⊘◌, dec, +0, one, two, half, L1, L2}

unfoldable pub G1 : Float
G1 = dec false 6666666666666735130 19

unfoldable pub G2 : Float
G2 = dec false 3999999999940941908 19

unfoldable pub G3 : Float
G3 = dec false 2857142874366239149 19

unfoldable pub G4 : Float
G4 = dec false 2222219843214978396 19

unfoldable pub G5 : Float
G5 = dec false 1818357216161805012 19

unfoldable pub G6 : Float
G6 = dec false 1531383769920937332 19

unfoldable pub G7 : Float
G7 = dec false 1479819860511658591 19

-- M, by its bits
unfoldable pub M : Float
M = from_bits binary64 0x3FE6_A09E_0000_0000

-- x·2^k, exactly
abbrev pub shifted : Float → ℤ → Float
shifted nan k = nan
shifted (inf s) k = inf s
shifted (fin s n e) k = fin s n (e +ℤ k)

-- v = m·2^k with m at least M and below 2·M
pub record Splits (v m : Float) (k : ℤ) : Type 0 where
  pub whole : v ≡ shifted m k
  pub least : T (le M m)
  pub most : T (lt m (two ⊗ M))

-- how many binary places take the whole number n to M ≤ n·2^-d < 2·M
unfoldable pub places : ℕ → ℕ
places n = cond (lt (fin false n (neg_ℤ (pos (size n)))) M) (size n - 1) (size n)

-- m, of v = n·2^e
unfoldable pub significand : Float → Float
significand nan = nan
significand (inf s) = nan
significand (fin s n e) = fin s n (neg_ℤ (pos (places n)))

-- k, of v = n·2^e
unfoldable pub binade : Float → ℤ
binade nan = pos 0
binade (inf s) = pos 0
binade (fin s n e) = e +ℤ pos (places n)

-- these m and k are so for every positive finite v, and no others
abbrev pub SplitOnce : Type 0
SplitOnce = (n : ℕ) (e : ℤ) → 0 < n → Splits (fin false n e) (significand (fin false n e)) (binade (fin false n e))
    × ((m : Float) (k : ℤ) → Splits (fin false n e) m k → (m ≡ significand (fin false n e)) × (k ≡ binade (fin false n e)))

-- R, of s
unfoldable pub remainder : Float → Float
remainder s =
    let z = s ⊗ s in
    let w = z ⊗ z in
    let t1 = w ⊗ (G2 ⊕ w ⊗ (G4 ⊕ w ⊗ G6)) in
    let t2 = z ⊗ (G1 ⊕ w ⊗ (G3 ⊕ w ⊗ (G5 ⊕ w ⊗ G7))) in
    t2 ⊕ t1

-- the result, of m and k
unfoldable pub log_by : Float → ℤ → Float
log_by m k =
    let f = m ⊖ one in
    let p = half ⊗ f ⊗ f in
    let s = f ⊘ (two ⊕ f) in
    let n = of_int binary64 k in
    s ⊗ (p ⊕ remainder s) ⊕ n ⊗ L2 ⊖ p ⊕ f ⊕ n ⊗ L1

unfoldable pub log_of : Float → Float
log_of v =
    cond (is_nan v || lt v +0) nan
    (cond (eq v +0) (inf true)
    (cond (eq v (inf false)) (inf false)
    (cond (eq v one) +0
    (log_by (significand v) (binade v)))))
