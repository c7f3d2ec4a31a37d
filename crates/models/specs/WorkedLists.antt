-- Small lists with what an import answers. A proof is in proofs/suppliers/WorkedLists.
use Rattle.std.specs.Prelude.{◌≡◌, true, false, List, [], ◌∷◌, ℕ, ◌*◌, replicate}
use Prim.Native.Char.{code}
use Prim.Native.String.{String, [] as nothing, ◌∷◌ as ◌then◌}
use Rattle.std.specs.Float.Ieee.{neg}
use Rattle.arithmetic.specs.Floats.{dec, +0, one}
use Rattle.models.specs.Suppliers.{import_fault, imported}

-- a text's bytes
abbrev pub ascii : String → List ℕ
ascii nothing = []
ascii (c then s) = code c ∷ ascii s

-- the number of a text for n components and a slice of n·n
abbrev pub answered : ℕ → String → ℕ
answered n s = import_fault n (replicate (n * n) +0) (ascii s)

-- digits, and a point among them: 15 count, zeros in front and behind too
abbrev pub Accepted : Type 0
Accepted =
    (answered 1 "1\n" ≡ 0) × (answered 1 "123456789012345\n" ≡ 0) × (answered 1 "-1234567.89012345\n" ≡ 0)
    × (answered 1 "-0\n" ≡ 0) × (answered 2 "-0.0,007\n1,2.50\n" ≡ 0)

-- a field of another form, also where it has 16 digits
abbrev pub OtherForm : Type 0
OtherForm =
    (answered 1 "\n" ≡ 12) × (answered 1 "-\n" ≡ 12) × (answered 1 ".5\n" ≡ 12) × (answered 1 "5.\n" ≡ 12)
    × (answered 1 "+5\n" ≡ 12) × (answered 1 "1e3\n" ≡ 12) × (answered 1 "1.2.3\n" ≡ 12) × (answered 1 "1 \n" ≡ 12)
    × (answered 1 "1\r\n" ≡ 12) × (answered 1 "1234567890123456x\n" ≡ 12) × (answered 1 "1234567890123456.\n" ≡ 12)

-- a field wrong only by more than 15 digits
abbrev pub TooLong : Type 0
TooLong =
    (answered 1 "1234567890123456\n" ≡ 13) × (answered 1 "-1234567890.123456\n" ≡ 13)
    × (answered 1 "0000000000000001\n" ≡ 13)

-- a field, a row or the last line feed missing, and a field, a row or a line feed too many
abbrev pub OtherRows : Type 0
OtherRows =
    (answered 2 "1,2\n3\n" ≡ 12) × (answered 2 "1,2\n" ≡ 12) × (answered 2 "1,2\n3,4" ≡ 12) × (answered 2 "" ≡ 12)
    × (answered 2 "1,2\n3,4,5\n" ≡ 12) × (answered 2 "1,2\n3,4\n5,6\n" ≡ 12) × (answered 2 "1,2\n3,4\n\n" ≡ 12)

-- 16 digits in a short row, and before a missing last line feed; after a short row, and in a surplus field and row
abbrev pub InOrder : Type 0
InOrder =
    (answered 2 "1234567890123456\n3,4\n" ≡ 13) × (answered 2 "1,2\n3,1234567890123456" ≡ 13)
    × (answered 2 "1\n1234567890123456,4\n" ≡ 12) × (answered 2 "1,2,1234567890123456\n3,4\n" ≡ 12)
    × (answered 2 "1,2\n3,4\n1234567890123456,5\n" ≡ 12)

-- n outside 1–12, and slices of n·n less and more one place
abbrev pub OtherShape : Type 0
OtherShape =
    (answered 0 "" ≡ 2) × (answered 13 "x" ≡ 2) × (import_fault 2 (replicate 3 +0) (ascii "1,2\n3,4\n") ≡ 2)
    × (import_fault 2 (replicate 5 +0) (ascii "x") ≡ 2)

-- what the slice holds: by rows, a minus zero as -0; and what it held where the text is refused
abbrev pub Held : Type 0
Held =
    (imported 2 (replicate 4 +0) (ascii "1,-2.5\n0.1,-0\n") ≡ one ∷ dec true 25 1 ∷ dec false 1 1 ∷ neg +0 ∷ [])
    × (imported 1 (one ∷ []) (ascii "2") ≡ one ∷ [])

abbrev pub Worked : Type 0
Worked = Accepted × OtherForm × TooLong × OtherRows × InOrder × OtherShape × Held
