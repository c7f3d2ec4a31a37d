-- An f64 as a whole number of millionths: document 02, Change 1.
use Rattle.std.specs.Prelude.{◌≡◌, ℕ, ◌*◌, ◌%◌, ◌≤◌, Bool, cond, ℤ, nat_le, Float}
use Rattle.std.specs.Float.{nan, inf, fin}
use Rattle.std.specs.Float.Ieee.{up, down}
use Rattle.std.specs.Float.Ieee.Nearest.{closest}
use Rattle.arithmetic.specs.Units.{apart, signed}
use Rattle.arithmetic.specs.Refusals.{Answer, Value, Refused}

-- 11 for NaN, an infinity and a magnitude of 2048 or more; else v times 10^6, which is ±m·up e·10^6 / down e, rounded to the
-- nearest whole number, a tie to the even one
unfoldable pub millionths_of : Float → Answer ℤ
millionths_of nan = Refused 11
millionths_of (inf s) = Refused 11
millionths_of (fin s m e) =
    cond (nat_le (2048 * down e) (m * up e)) (Refused 11)
    (Value (signed s (closest (m * up e * 1000000) (down e))))

-- ---- what the number is good for

-- z millionths are at most half a millionth off ±num / den, and even where they are exactly that far off
pub record Shows (s : Bool) (num den : ℕ) (z : ℤ) : Type 0 where
  pub size : ℕ
  pub is : z ≡ signed s size
  pub near : apart (size * den) (num * 1000000) * 2 ≤ den
  pub even : apart (size * den) (num * 1000000) * 2 ≡ den → size % 2 ≡ 0

abbrev pub ShowsOf : Float → ℤ → Type 0
ShowsOf nan z = ⊥
ShowsOf (inf s) z = ⊥
ShowsOf (fin s m e) z = Shows s (m * up e) (down e) z

-- so is every number that is shown ..
abbrev pub HalfOff : Type 0
HalfOff = (v : Float) (z : ℤ) → millionths_of v ≡ Value z → ShowsOf v z

-- .. and no other is
abbrev pub OneShows : Type 0
OneShows = (v : Float) (y z : ℤ) → ShowsOf v y → ShowsOf v z → y ≡ z
