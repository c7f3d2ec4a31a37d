-- The line of an answer, in ASCII: document 01, "Strip and program".
use Rattle.std.specs.Prelude.{ℕ, zero, suc, ◌/◌, cond, List, [], ◌∷◌, ◌++◌, ◌≡◌, ltb, length, Float}
use Prim.Native.Char.{code}
use Prim.Native.String.{String, [] as nothing, ◌∷◌ as ◌then◌}
use Rattle.std.proofs.lemmas.List.Edits.{sets}
use Rattle.std.specs.Float.{binary64}
use Rattle.std.specs.Float.Ieee.{to_bits, is_nan}
use Rattle.io.specs.Digits.{last_digits}
use Rattle.mixture.specs.Answers.{Answer, Refused, Done, Value}

-- the codes of a text
abbrev pub ascii : String → List ℕ
ascii nothing = []
ascii (c then s) = code c ∷ ascii s

-- how many decimal digits n has, at most k + 1
unfoldable pub places_to : ℕ → ℕ → ℕ
places_to zero n = 1
places_to (suc k) n = cond (ltb n 10) 1 (suc (places_to k (n / 10)))

-- the digits of a number below 10^20
unfoldable pub decimal : ℕ → List ℕ
decimal n = last_digits 10 (places_to 19 n) n

-- `nan`, or 16 lowercase hexadecimal digits of the value's bits
unfoldable pub value_text : Float → List ℕ
value_text v = cond (is_nan v) (ascii "nan") (last_digits 16 16 (to_bits binary64 v))

unfoldable pub line : Answer → List ℕ
line Done = ascii "ok\n"
line (Refused k) = ascii "refused " ++ (decimal k ++ ascii "\n")
line (Value v count) = value_text v ++ (ascii " " ++ (decimal count ++ ascii "\n"))

abbrev pub broken : List ℕ
broken = ascii "broken\n"

-- The text t stored in l from p on makes l', and r is its length. What would lie past l's end isn't stored.
pub record Put (l : List ℕ) (p : ℕ) (t : List ℕ) (r : ℕ) (l' : List ℕ) : Type 0 where
  pub long : r ≡ length t
  pub text : l' ≡ sets l p t
