-- Which line of `log_of` holds, by the tests that led there.
use Rattle.std.proofs.Common.{◌≡◌, ◌+◌, ◌*◌, ◌/◌, ◌^◌, Bool, true, false, ◌&&◌, eqb, pos, sym, refl, ◌∙◌, true≢false, arith, ltb→lt, ltb-false, le-ltb, lt-ltb, eq-eqb, ne_eqb}
use lib.Ieee.{Float, nan, inf, fin, binary64, up, down, lt, eq, is_nan, to_bits}
use borrow.Author.Tests.{eqb-false}
use Rattle.arithmetic.specs.Floats.{one}
use Rattle.arithmetic.proofs.Tests.{passed}
use Rattle.arithmetic.specs.Steps.Digits.{Normal}
use Rattle.arithmetic.specs.Logarithm.{log_of, log_by, significand, binade}

-- the last line of `log_of`
abbrev pub rest : Float → Float
rest v = log_by (significand v) (binade v)

pub log_nan : nan ≡ log_of nan
unfolding log_of is_nan
log_nan = refl

pub is_inf : (v : Float) → eq v (inf false) ≡ true → v ≡ inf false
unfolding eq
is_inf nan h = absurd (true≢false (sym h))
is_inf (inf true) h = absurd (true≢false (sym h))
is_inf (inf false) h = refl
is_inf (fin s m e) h = absurd (true≢false (sym h))

module _ (v : Float) (n : is_nan v ≡ false) where
  pub log_negative : lt v (fin false 0 (pos 0)) ≡ true → nan ≡ log_of v
  unfolding log_of
  log_negative h = rw (n, h)

  module _ (h : lt v (fin false 0 (pos 0)) ≡ false) where
    pub log_zero : eq v (fin false 0 (pos 0)) ≡ true → inf true ≡ log_of v
    unfolding log_of
    log_zero z = rw (n, h, z)

    module _ (z : eq v (fin false 0 (pos 0)) ≡ false) where
      pub log_inf : eq v (inf false) ≡ true → inf false ≡ log_of v
      unfolding log_of
      log_inf i = rw (n, h, z, i)

-- neither a NaN nor below zero, neither zero nor the infinity
abbrev pub Positive : Float → Type 0
Positive v = (is_nan v ≡ false) × (lt v (fin false 0 (pos 0)) ≡ false) × (eq v (fin false 0 (pos 0)) ≡ false) × (eq v (inf false) ≡ false)

module _ (v : Float) (p : Positive v) where
  pub log_one : eq v one ≡ true → fin false 0 (pos 0) ≡ log_of v
  unfolding log_of
  log_one o = rw (p.0, p.1, p.2, p.3, o)

  pub log_rest : eq v one ≡ false → rest v ≡ log_of v
  unfolding log_of
  log_rest o = rw (p.0, p.1, p.2, p.3, o)

-- ---- a normal number

pub normal_positive : (v : Float) → Normal v → Positive v
unfolding lt eq is_nan
normal_positive nan h = absurd h.above
normal_positive (inf true) h = absurd h.above
normal_positive (inf false) h = absurd h.below
normal_positive (fin true m e) h = absurd h.above
normal_positive (fin false m e) h =
    let l = ltb→lt (0 * 1 * down e) (m * up e * 1) h.above in
    (refl, le-ltb (m * up e * 1) (0 * 1 * down e) (omega arith), rw (ne_eqb (m * up e * 1) (0 * 1 * down e) (λ q. omega arith)) refl, refl)

pub normal_of : (v : Float) → Positive v → (to_bits binary64 v / 2 ^ 52 ≡ 0 → ⊥) → Normal v
unfolding lt eq is_nan
normal_of nan h f = absurd (true≢false h.0)
normal_of (inf true) h f = absurd (true≢false h.1)
normal_of (inf false) h f = absurd (true≢false h.3)
normal_of (fin true m e) h f =
    let l = ltb-false 0 (m * up e * 1 + 0 * 1 * down e) h.1 in
    let a : eqb (m * up e * 1) (0 * 1 * down e) ≡ true = eq-eqb (m * up e * 1) (0 * 1 * down e) (omega arith) in
    let b : eqb (m * up e * 1) 0 ≡ true = eq-eqb (m * up e * 1) 0 (omega arith) in
    absurd (true≢false (sym (rw (a, b) refl) ∙ h.2))
normal_of (fin false m e) h f =
    let l = eqb-false (m * up e * 1) (0 * 1 * down e) (and-l_false _ h.2) in
    record { above = passed (lt-ltb (0 * 1 * down e) (m * up e * 1) (omega arith)); below = tt; field = f }
  where
    and-l_false : (b : Bool) → b && true ≡ false → b ≡ false
    and-l_false true q = q
    and-l_false false q = refl
