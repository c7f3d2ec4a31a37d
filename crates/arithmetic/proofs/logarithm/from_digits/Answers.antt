-- The bits put the 53 digits below the exponent of 1 or of 1/2, by the test against the digits of M.
use Rattle.std.proofs.Common.{◌≡◌, ℕ, suc, ◌*◌, ◌<◌, Bool, true, false, cond, ltb, pos, refl, ◌∙◌, lit<, w32}
use lib.Ieee.{odd, minus}
use mir.ValLaws.{to_z-of_z}
use Rattle.arithmetic.specs.Logarithm.{log_by}
use Rattle.arithmetic.specs.Steps.Digits.{from_digits}
use Rattle.arithmetic.proofs.logarithm.Differences.{digits_bits, digits_no_nan, diff_back}
use Rattle.arithmetic.proofs.logarithm.from_digits.Goals as goal

-- ---- the test's two numbers

abbrev test : ℕ → Bool
test q = ltb q 0x16_a09e_0000_0000

abbrev field : Bool → ℕ
field t = cond t 1022 1021

abbrev short : Bool → ℕ
short t = cond t 1074 1073

field_lt : (t : Bool) → field t < 2046
field_lt true = lit< tt
field_lt false = lit< tt

short-lt : (t : Bool) → suc (short t) < 4096
short-lt true = lit< tt
short-lt false = lit< tt

bias_is : (t : Bool) → cond t 0x3fe0_0000_0000_0000 0x3fd0_0000_0000_0000 ≡ field t * 4503599627370496
bias_is true = refl
bias_is false = refl

shortfall_is : (t : Bool) → cond t (pos 1075) (pos 1074) ≡ pos (suc (short t))
shortfall_is true = refl
shortfall_is false = refl

digits-is : (t : Bool) (q x : ℕ) → test q ≡ t → log_by (odd 53 false q (field t) 1074) (minus x (suc (short t))) ≡ from_digits q x
unfolding from_digits
digits-is true q x h = rw h
digits-is false q x h = rw h

-- ---- the goals

pub float_from_bits-q : goal.float_from_bits-q
float_from_bits-q c =
    let t = test c.args.q in
    rw (c.bias.ensures ∙ bias_is t) (digits_no_nan c.args.q (field t) c.requires.0 c.requires.1 (field_lt t))

pub returns : goal.returns
returns c =
    let t = test c.args.q in
    let bias = c.bias.ensures ∙ bias_is t in
    let shortfall = to_z-of_z w32 c.shortfall.result (record { sfits = c.shortfall.type_inv }) ∙ c.shortfall.ensures ∙ shortfall_is t in
    c.log_by.ensures
    ∙ rw (shortfall, bias, digits_bits c.args.q (field t) c.requires.0 c.requires.1 (field_lt t), diff_back c.args.x (short t) c.requires.2 (short-lt t)) refl
    ∙ digits-is t c.args.q c.args.x refl
