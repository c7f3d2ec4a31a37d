-- Demand 3 for a host in C: from an opening on, no order of calls, of any arguments, can make a mixture answer wrongly.
use Rattle.std.specs.Prelude.{◌≡◌, false, List, [], ◌∷◌, map, ℕ, Float}
use Rattle.mixture.specs.Answers.{Done}
use Rattle.mixture.specs.Memory.{Memory, is_short}
use Rattle.mixture.specs.Calls.{after_open, after_load, after_setting, after_fractions, after_query}
use Rattle.mixture.specs.Book as Book
use Rattle.kiltgrit.specs.declared.border.CHead.{CHead}
use Rattle.kiltgrit.specs.declared.border.CReply.{CReply}
use Rattle.kiltgrit.specs.declared.border.CAnswer.{CAnswer}
use Rattle.kiltgrit.specs.declared.arguments.CSetting.{CSetting}
use Rattle.kiltgrit.specs.Border.{head_of, answer_of, Left, replied, answered}
use Rattle.kiltgrit.specs.Arguments.{load_of, setting_of, quantity_asked}

-- a call and its arguments other than the lent memory and the head
pub data Call : Type 0 where
  Open : Call
  Load : ℕ → ℕ → ℕ → ℕ → List ℕ → List ℕ → List Float → Call
  Set : CSetting → Call
  Fractions : List Float → Call
  Query : ℕ → ℕ → Call

-- the same in document 01's words
unfoldable pub call_of : Call → Book.Call
call_of Open = Book.Open
call_of (Load model form n ng lens groups given) = Book.Load (load_of model form n ng lens groups given)
call_of (Set s) = Book.Set (setting_of s)
call_of (Fractions x) = Book.Fractions x
call_of (Query asked i) = Book.Query (quantity_asked asked i)

-- what the host has after a call: the memory, the head that it hands on, and what it was told
pub record Host : Type 0 where
  pub memory : Memory
  pub head : CHead
  pub told : CAnswer

-- the head that came back
abbrev pub taken : Left CReply → Host
taken l =
    record {
      memory = l.memory;
      head = l.given.head;
      told = record { value = l.given.value; cells_worked = l.given.cells_worked; renewed = l.given.renewed; refused = l.given.refused; unused = l.given.unused };
    }

-- a query gives none back: the host's own
abbrev pub asked : CHead → Left CAnswer → Host
asked c l = record { memory = l.memory; head = c; told = l.given }

-- each call by its contract
unfoldable pub host_after : Memory → CHead → Call → Host
host_after m c Open = taken (replied c (after_open m (head_of c)))
host_after m c (Load model form n ng lens groups given) = taken (replied c (after_load m (head_of c) (load_of model form n ng lens groups given)))
host_after m c (Set s) = taken (replied c (after_setting m (head_of c) (setting_of s)))
host_after m c (Fractions x) = taken (replied c (after_fractions m (head_of c) x))
host_after m c (Query k i) = asked c (answered (after_query m (head_of c) (quantity_asked k i)))

-- each call is lent the memory that the one before left, and gets the head that the host has from it
unfoldable pub host_told : Memory → CHead → List Call → List CAnswer
host_told m c [] = []
host_told m c (k ∷ ks) = (host_after m c k).told ∷ host_told (host_after m c k).memory (host_after m c k).head ks

-- On memory whose slices aren't short, with any bits and any head, the opening is accepted, and from there on all that the host is told
-- is the book's answer.
abbrev pub HostHistory : Type 0
HostHistory = (m : Memory) (c : CHead) (calls : List Call) → is_short m ≡ false
    → host_told m c (Open ∷ calls) ≡ map answer_of (Done ∷ Book.book_answers Book.empty [] (map call_of calls))
