-- The plain call of an answered query: document 01, "Mixture". The book's holdings in the strip's order are its slices.
use Rattle.std.specs.Prelude.{◌≡◌, List, [], ◌∷◌, ◌++◌, Float}
use Rattle.std.proofs.Math.Option.{some}
use Rattle.models.specs.declared.answers.Quantity.{Quantity}
use Rattle.models.specs.Answers.{number_of as plain_number, values_of as plain_values}
use Rattle.models.specs.Faults.{index_fault}
use Rattle.models.specs.Plain.{plain_call}
use Rattle.mixture.specs.Holdings.{Held}
use Rattle.mixture.specs.Answers.{values_of, counts_of}
use Rattle.mixture.specs.Book.{Mix, Call, Query, empty, touched_cells, since, book_answer, book_answers, book_of, past_of}
use Rattle.mixture.specs.WrittenBack.{data_of}

-- The answer to one more call is by the book after the calls, and by those of them that were accepted.
abbrev pub OneMore : Type 0
OneMore = (calls : List Call) (c : Call)
    → book_answers empty [] (calls ++ c ∷ []) ≡ book_answers empty [] calls ++ book_answer (book_of empty [] calls) (past_of empty [] calls) c ∷ []

-- After any calls, where the book holds a model, T and fractions and has the component asked for, the plain call on its
-- holdings, with the tolerance under which its fractions were accepted, is not refused; its value is the one that the book
-- answers, with the number of cells touched. (In a history `past` is what `OneMore` says; here it may be any list.)
abbrev pub PlainCall : Type 0
PlainCall = (calls past : List Call) (d : Held) (T : Float) (x : Mix) (q : Quantity)
    → (book_of empty [] calls).model ≡ some d → (book_of empty [] calls).T ≡ some T → (book_of empty [] calls).x ≡ some x
    → index_fault d.n q ≡ 0
    → (plain_number (plain_call (data_of d) T x.under x.fractions q) ≡ 0)
    × (values_of (book_answer (book_of empty [] calls) past (Query q)) ≡ plain_values (plain_call (data_of d) T x.under x.fractions q))
    × (counts_of (book_answer (book_of empty [] calls) past (Query q)) ≡ touched_cells d (since past) ∷ [])
