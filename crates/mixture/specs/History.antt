-- The history theorem, from which Demand3 follows: from an opening on, no order of calls can make a mixture answer wrongly.
-- docs/REVIEW.md, "Demand 3", says what the two sides of the claim share, and why that is safe.
use Rattle.std.specs.Prelude.{◌≡◌, false, List, [], ◌∷◌}
use Rattle.mixture.specs.declared.head.Head.{Head}
use Rattle.mixture.specs.Answers.{Answer, Done}
use Rattle.mixture.specs.Memory.{Memory, is_short, After}
use Rattle.mixture.specs.Calls.{after_open, after_load, after_setting, after_fractions, after_query}
use Rattle.mixture.specs.Book.{Call, Open, Load, Set, Fractions, Query, empty, book_answers}

-- each call by its contract
unfoldable pub after_call : Memory → Head → Call → After
after_call m h Open = after_open m h
after_call m h (Load d) = after_load m h d
after_call m h (Set s) = after_setting m h s
after_call m h (Fractions x) = after_fractions m h x
after_call m h (Query q) = after_query m h q

-- each call is lent the memory that the one before left, and gets the head that it returned
unfoldable pub answers : Memory → Head → List Call → List Answer
answers m h [] = []
answers m h (c ∷ cs) = (after_call m h c).answer ∷ answers (after_call m h c).memory (after_call m h c).head cs

-- On memory whose slices aren't short, with any bits and any head, the opening is accepted, and from there on each answer
-- (refusal, value and count of cells) is the book's, which never sees memory, head or an answer.
abbrev pub History : Type 0
History = (m : Memory) (h : Head) (calls : List Call) → is_short m ≡ false
    → answers m h (Open ∷ calls) ≡ Done ∷ book_answers empty [] calls
