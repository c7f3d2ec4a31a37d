-- A decimal field of a supplier's list as the nearest f64: document 02, Change 2.
use Rattle.std.specs.Prelude.{◌≡◌, ℕ, suc, ◌+◌, ◌-◌, ◌*◌, ◌^◌, ◌<◌, Bool, true, false, cond, ◌&&◌, T, ◌⊎◌, List, [], ◌∷◌, length, take, drop, ◌==◌, nat_le, slice_index, Float}
use Rattle.std.specs.Float.{nan, binary64}
use Rattle.std.specs.Float.Ieee.{fits}
use Rattle.std.specs.Float.Ieee.Exact.{HasValue}
use Rattle.std.specs.Float.Ieee.Scale.{finite}
use Rattle.arithmetic.specs.Floats.{dec}
use Rattle.arithmetic.specs.Units.{apart, units_of}
use Rattle.arithmetic.specs.Refusals.{Answer, Value, Refused}

-- ---- digits

-- from 48 to 57
abbrev pub is_digit : ℕ → Bool
is_digit b = nat_le 48 b && nat_le b 57

-- how many digits stand first
unfoldable pub leading : List ℕ → ℕ
leading [] = 0
leading (b ∷ l) = cond (is_digit b) (suc (leading l)) 0

abbrev pub digit : ℕ → ℕ
digit b = cond (is_digit b) (b - 48) 0

-- the number that has a's digits and then those of l
unfoldable pub valued : ℕ → List ℕ → ℕ
valued a [] = a
valued a (b ∷ l) = valued (a * 10 + digit b) l

-- ---- a field, with a minus where s is true

-- the digits a, and b behind the point: 13 for more than 15 in all
unfoldable pub digits_field : Bool → List ℕ → List ℕ → Answer Float
digits_field s a b =
    cond (nat_le (length a + length b) 15) (Value (dec s (valued (valued 0 a) b) (length b))) (Refused 13)

-- the digits a, and b behind the point: 12 for none there, or another byte
unfoldable pub pointed_field : Bool → List ℕ → List ℕ → Answer Float
pointed_field s a b =
    cond (leading b == 0) (Refused 12)
    (cond (leading b == length b) (digits_field s a b) (Refused 12))

-- digits, and where they end nothing or a point (46): 12 for no digit, or another byte there
unfoldable pub unsigned_field : Bool → List ℕ → Answer Float
unsigned_field s l =
    cond (leading l == 0) (Refused 12)
    (cond (leading l == length l) (digits_field s l [])
    (cond (slice_index l (leading l) == 46) (pointed_field s (take (leading l) l) (drop (leading l + 1) l)) (Refused 12)))

-- with or without a minus (45)
unfoldable pub field_of : List ℕ → Answer Float
field_of l = cond (slice_index l 0 == 45) (unsigned_field true (drop 1 l)) (unsigned_field false l)

-- ---- what is read

-- 0, or the refusal's number
unfoldable pub field_number : Answer Float → ℕ
field_number (Value v) = 0
field_number (Refused k) = k

-- the f64, NaN for none
unfoldable pub field_value : Answer Float → Float
field_value (Value v) = v
field_value (Refused k) = nan

-- ---- what the number is good for

-- r is the f64 nearest to ±n / 10^d: it is finite, has the sign, and every finite f64 of another size is farther off. So a tie
-- never arises
pub record Rounded (s : Bool) (n d : ℕ) (r : Float) : Type 0 where
  pub value : HasValue r s (units_of r) (2 ^ 1074)
  pub nearest : (y : Float) → T (fits binary64 y) → T (finite y) → (units_of y ≡ units_of r)
      ⊎ (apart (units_of r * 10 ^ d) (n * 2 ^ 1074) < apart (units_of y * 10 ^ d) (n * 2 ^ 1074))
