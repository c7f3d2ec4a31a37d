-- Demand 3, in its own words and order: one claim about lists of calls of any length, refused ones among them.
-- It follows from History, OneMore and PlainCall.
use Rattle.std.specs.Prelude.{◌≡◌, List, [], ◌∷◌, ℕ, ◌≤◌, length, Float}
use Rattle.std.proofs.Math.Option.{some}
use Rattle.models.specs.declared.answers.Quantity.{Quantity}
use Rattle.arithmetic.specs.Refusals.{Value as Plainly}
use Rattle.mixture.specs.declared.head.Head.{Head}
use Rattle.mixture.specs.Answers.{Answer, Refused, Done, Value}
use Rattle.mixture.specs.Holdings.{Held}
use Rattle.mixture.specs.Memory.{Memory}
use Rattle.mixture.specs.Book.{Mix, Book, Call, Open, Query, empty, touched_cells, since, book_answer, book_of, past_of}
use Rattle.mixture.specs.History.{after_call}
use Rattle.mixture.specs.WrittenBack.{data_of}
use Rattle.models.specs.Plain.{plain_call}

-- ---- a further call, after the calls

-- what calls leave: each is lent the memory that the one before left, and gets the head that it returned
pub record Left : Type 0 where
  pub memory : Memory
  pub head : Head

unfoldable pub left_by : Memory → Head → List Call → Left
left_by m h [] = record { memory = m; head = h }
left_by m h (c ∷ cs) = left_by (after_call m h c).memory (after_call m h c).head cs

abbrev pub answer_after : Memory → Head → List Call → Call → Answer
answer_after m h calls c = (after_call (left_by m h calls).memory (left_by m h calls).head c).answer

-- the book is told the calls alone
abbrev pub book_answer_after : List Call → Call → Answer
book_answer_after calls c = book_answer (book_of empty [] calls) (past_of empty [] calls) c

-- ---- the claim

-- the book holds a model, T and fractions
abbrev pub Stands : Book → Held → Float → Mix → Type 0
Stands b d T x = (b.model ≡ some d) × (b.T ≡ some T) × (b.x ≡ some x)

-- the answer to a query: the plain call's value for what stands in the book, with the tolerance under which its fractions were
-- accepted, and the number of distinct cells with an input loaded or set since the last answered query
pub record ByPlainCall (calls : List Call) (q : Quantity) (a : Answer) : Type 0 where
  pub d : Held
  pub T : Float
  pub x : Mix
  pub v : Float
  pub stands : Stands (book_of empty [] calls) d T x
  pub plainly : plain_call (data_of d) T x.under x.fractions q ≡ Plainly v
  pub given : a ≡ Value v (touched_cells d (since (past_of empty [] calls)))

-- on three slices with any bits and with any head the opening is accepted; after it and any calls a further call is refused with k
-- exactly when the book refuses it with k, and a query that isn't refused is answered
pub record Met (m : Memory) (h : Head) (calls : List Call) : Type 0 where
  pub opened : answer_after m h [] Open ≡ Done
  pub refused : (c : Call) (k : ℕ) → answer_after m h (Open ∷ calls) c ≡ Refused k → book_answer_after calls c ≡ Refused k
  pub declined : (c : Call) (k : ℕ) → book_answer_after calls c ≡ Refused k → answer_after m h (Open ∷ calls) c ≡ Refused k
  pub answered : (q : Quantity) → ((k : ℕ) → answer_after m h (Open ∷ calls) (Query q) ≡ Refused k → ⊥)
      → ByPlainCall calls q (answer_after m h (Open ∷ calls) (Query q))

-- the slices have at least 5,328, 1,024 and 1,024 places
abbrev pub Demand3 : Type 0
Demand3 = (m : Memory) (h : Head) (calls : List Call)
    → 5328 ≤ length m.values → 1024 ≤ length m.cells → 1024 ≤ length m.marks
    → Met m h calls
