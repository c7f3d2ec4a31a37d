-- Demand 3 from the three theorems: the history of one call more ends with the answer to that call, the book's to it is
-- OneMore's, and its value PlainCall's.
use mathlib.Core.Path.{◌≡◌, refl, sym, ap, ◌∙◌}
use mathlib.Core.Bool.{false}
use mathlib.Core.List.{List, [], ◌∷◌, ◌++◌}
use mathlib.Core.Logic.{inl, inr}
use mathlib.Core.Option.{Option, none, some}
use Prim.Native.Nat.{ℕ, ◌≤◌}
use lib.Dec.{eqb}
use lib.ListN.{length}
use lib.Ieee.{Float}
use borrow.Author.Tests.{le-ltb, eqb-true}
use Rattle.arithmetic.proofs.Tests.{either}
use Rattle.models.specs.declared.answers.Quantity.{Quantity}
use Rattle.arithmetic.specs.Refusals.{Answer as PlainAnswer, Refused as Declined, Value as Plainly}
use Rattle.models.specs.Answers.{values_of as plain_values}
use Rattle.models.specs.Faults.{index_fault}
use Rattle.mixture.specs.declared.head.Head.{Head}
use Rattle.mixture.specs.Answers.{Answer, Refused, Done, Value, values_of}
use Rattle.mixture.specs.Holdings.{Held}
use Rattle.mixture.specs.Memory.{Memory, is_short, short, least_values, least_cells, least_marks}
use Rattle.mixture.specs.Book.{Mix, Call, Open, Query, Book, book, empty, plain, having, touched_cells, since, query_answer, book_answer, book_answers, book_of, past_of}
use Rattle.mixture.specs.History.{after_call, answers}
use Rattle.mixture.specs.Demand3.{left_by, answer_after, book_answer_after, Stands, ByPlainCall, Demand3}
use Rattle.mixture.proofs.History.History.{history}
use Rattle.mixture.proofs.PlainCall.{plain_call_lem, one_more}

-- ---- the last of a list

last_of : Answer → List Answer → Answer
last_of z [] = z
last_of z (a ∷ l) = last_of a l

last-is : (z : Answer) (l : List Answer) (a : Answer) → last_of z (l ++ a ∷ []) ≡ a
unfolding last_of
last-is z [] a = refl
last-is z (b ∷ l) a = last-is b l a

answers-more : (cs : List Call) (m : Memory) (h : Head) (c : Call) → answers m h (cs ++ c ∷ []) ≡ answers m h cs ++ answer_after m h cs c ∷ []
unfolding answers left_by
answers-more [] m h c = refl
answers-more (a ∷ cs) m h c = ap (λ (l : List Answer). (after_call m h a).answer ∷ l) (answers-more cs _ _ c)

-- ---- the answer to one call more is the book's

book-is : (m : Memory) (h : Head) (calls : List Call) (c : Call) → is_short m ≡ false → answer_after m h (Open ∷ calls) c ≡ book_answer_after calls c
book-is m h calls c s =
    sym (last-is Done (answers m h (Open ∷ calls)) _)
    ∙ (ap (last_of Done) (sym (answers-more (Open ∷ calls) m h c) ∙ (history m h (calls ++ c ∷ []) s ∙ ap (λ (l : List Answer). Done ∷ l) (one_more calls c)))
    ∙ last-is Done (Done ∷ book_answers empty [] calls) (book_answer_after calls c))

-- ---- what a query that isn't refused finds in the book

record Found (b : Book) (past : List Call) (q : Quantity) : Type 0 where
  d : Held
  T : Float
  x : Mix
  stands : Stands b d T x
  index : index_fault d.n q ≡ 0
  answer : book_answer b past (Query q) ≡ Value (plain d T x.fractions q) (touched_cells d (since past))

found : (b : Book) (past : List Call) (q : Quantity) → ((k : ℕ) → book_answer b past (Query q) ≡ Refused k → ⊥) → Found b past q
unfolding book_answer query_answer having
found b past q ne = go b.model b.T b.x b.tolerance ne
  where
    go : (o : Option Held) (t : Option Float) (u : Option Mix) (ε : Float) → ((k : ℕ) → book_answer (book o t u ε) past (Query q) ≡ Refused k → ⊥) → Found (book o t u ε) past q
    go none t u ε ne = absurd (ne 8 refl)
    go (some d) none u ε ne = absurd (ne 9 refl)
    go (some d) (some T) none ε ne = absurd (ne 9 refl)
    go (some d) (some T) (some x) ε ne =
        elim (either (eqb (index_fault d.n q) 0)) [
          | inl e ↦ record { d = d; T = T; x = x; stands = (refl, refl, refl); index = eqb-true _ 0 e; answer = rw e }
          | inr e ↦ absurd (ne (index_fault d.n q) (rw e refl))
        ]

-- a plain call with a value is answered with it
plainly : (a : PlainAnswer Float) (v : Float) → v ∷ [] ≡ plain_values a → a ≡ Plainly v
unfolding plain_values
plainly (Declined k) v e = cc
plainly (Plainly u) v e = cc

-- ---- the claim

not_short : (m : Memory) → 5328 ≤ length m.values → 1024 ≤ length m.cells → 1024 ≤ length m.marks → is_short m ≡ false
unfolding short least_values least_cells least_marks
not_short m v c k =
    rw (le-ltb (length m.values) least_values v, le-ltb (length m.cells) least_cells c, le-ltb (length m.marks) least_marks k)

open_accepted : (m : Memory) (h : Head) → is_short m ≡ false → answer_after m h [] Open ≡ Done
unfolding last_of answers left_by book_answers
open_accepted m h s = ap (last_of Done) (history m h [] s)

-- what a query finds in the book is what it is answered with
by_book : (calls : List Call) (q : Quantity) {a : Answer} → a ≡ book_answer_after calls (Query q) → Found (book_of empty [] calls) (past_of empty [] calls) q → ByPlainCall calls q a
unfolding values_of
by_book calls q e f =
    let plain-is =
    plain_call_lem calls (past_of empty [] calls) f.d f.T f.x q f.stands.0 f.stands.1 f.stands.2 f.index in
    record {
      d = f.d;
      T = f.T;
      x = f.x;
      v = plain f.d f.T f.x.fractions q;
      stands = f.stands;
      plainly = plainly _ _ (sym (ap values_of f.answer) ∙ plain-is.1);
      given = e ∙ f.answer;
    }

pub demand3 : Demand3
demand3 m h calls v c k =
    let s = not_short m v c k in
    record {
      opened = open_accepted m h s;
      refused = λ c k e. sym (book-is m h calls c s) ∙ e;
      declined = λ c k e. book-is m h calls c s ∙ e;
      answered = λ q ne. let e = book-is m h calls (Query q) s in by_book calls q e (found _ _ q (λ k r. ne k (e ∙ r)));
    }
