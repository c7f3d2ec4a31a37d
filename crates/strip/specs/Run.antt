-- The text of a strip: document 01, "Strip and program". A line for each record is the book's answer to its call, and at
-- the first malformed or cut record the text ends with `broken`.
use Rattle.std.specs.Prelude.{ℕ, zero, suc, ◌+◌, ◌*◌, cond, List, [], ◌∷◌, ◌++◌, ltb, length}
use Rattle.mixture.specs.Answers.{Answer}
use Rattle.mixture.specs.Book.{Call, empty, book_answers}
use Rattle.strip.specs.Words.{most_bytes}
use Rattle.strip.specs.Records.{Read, Record, Broken, End, read_at}
use Rattle.strip.specs.Calls.{call_of}
use Rattle.strip.specs.Text.{line, broken}

-- the calls that records make, and how the text ends after their lines
pub record Script : Type 0 where
  pub calls : List Call
  pub ending : List ℕ

abbrev pub script : List Call → List ℕ → Script
script c e = record { calls = c; ending = e }

abbrev pub script_by : List ℕ → Read → (ℕ → Script) → Script
script_by s (Record r) next = script (call_of s r ∷ (next r.next).calls) (next r.next).ending
script_by s Broken next = script [] broken
script_by s End next = script [] []

-- from p on, at most k records
unfoldable pub script_from : List ℕ → ℕ → ℕ → Script
script_from s zero p = script [] []
script_from s (suc k) p = script_by s (read_at s p) (script_from s k)

-- each record has at least four bytes, so there are no more records than bytes
unfoldable pub script_of : List ℕ → Script
script_of s = script_from s (length s) 0

unfoldable pub lines : List Answer → List ℕ
lines [] = []
lines (a ∷ rest) = line a ++ lines rest

-- an over-long strip writes only `broken`
unfoldable pub transcript : List ℕ → List ℕ
transcript s = cond (ltb most_bytes (length s)) broken (lines (book_answers empty [] (script_of s).calls) ++ (script_of s).ending)

-- no text is longer: a record of one word or more has a line of at most 40 bytes, and `broken` has 7
abbrev pub most_text : ℕ
most_text = 10 * most_bytes + 7
