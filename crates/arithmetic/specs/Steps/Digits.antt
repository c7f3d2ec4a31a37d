-- Inner steps of log's code.
use Rattle.std.specs.Prelude.{◌≡◌, ℕ, ◌/◌, ◌^◌, false, cond, T, nat_lt, to_bits, Float}
use Rattle.std.specs.Float.{inf, binary64}
use Rattle.std.specs.Float.Ieee.{lt, odd, minus}
use Rattle.arithmetic.specs.Floats.{+0}
use Rattle.arithmetic.specs.Logarithm.{log_by}

-- positive, finite and not subnormal: its exponent's field isn't 0
pub record Normal (v : Float) : Type 0 where
  pub above : T (lt +0 v)
  pub below : T (lt v (inf false))
  pub field : to_bits binary64 v / 2 ^ 52 ≡ 0 → ⊥

-- log of q·2^-53·2^(x - 1074), for a q of 53 binary digits: m is q·2^-52 where q is below M's digits, and else q·2^-53
unfoldable pub from_digits : ℕ → ℕ → Float
from_digits q x =
    cond (nat_lt q 0x16_a09e_0000_0000) (log_by (odd 53 false q 1022 1074) (minus x 1075))
    (log_by (odd 53 false q 1021 1074) (minus x 1074))
