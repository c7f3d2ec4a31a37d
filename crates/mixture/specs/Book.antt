-- The book: document 01, "Mixture". It is told the calls alone, and holds what document 01 names, and a tolerance (document 02,
-- Change 3).
use Rattle.std.specs.Prelude.{Bool, true, false, not, ◌&&◌, cond, List, [], ◌∷◌, ℕ, eqb, Float}
use Rattle.std.proofs.Math.Option.{Option, none, some}
use Rattle.arithmetic.specs.Floats.{+0}
use Rattle.arithmetic.specs.Tables.{Table, at}
use Rattle.arithmetic.specs.declared.parameters.TdParam.{TdParam}
use Rattle.models.specs.declared.answers.Quantity.{Quantity}
use Rattle.models.specs.Faults.{usual_tolerance, index_fault, data_fault, mix_fault}
use Rattle.models.specs.Wilson.{wilson_at}
use Rattle.models.specs.Uniquac.{uniquac_at}
use Rattle.models.specs.Nrtl.{nrtl_at}
use Rattle.models.specs.Unifac.{unifac_at}
use Rattle.models.specs.declared.model.Model.{Model}
use Rattle.mixture.specs.declared.setting.Setting.{Setting}
use Rattle.mixture.specs.declared.setting.Setting.TheVariants.{Temperature, Entry, TdEntry, Size, Count, Tolerance}
use Rattle.mixture.specs.Answers.{Answer, Refused, Done, Value, number_of, unless}
use Rattle.mixture.specs.Lists.{any_of, how_many_pairs}
use Rattle.mixture.specs.Holdings.{Held, held, Name, temperature, same, named}
use Rattle.mixture.specs.Cells.{width, is_cell, inputs}
use Rattle.models.specs.Model.{ModelData, by_model}
use Rattle.mixture.specs.Faults.{case_fault}

-- a call and its arguments other than the lent memory and the head
pub data Call : Type 0 where
  Open : Call
  Load : ModelData → Call
  Set : Setting → Call
  Fractions : List Float → Call
  Query : Quantity → Call

-- fractions, and the tolerance under which they were accepted
pub record Mix : Type 0 where
  pub fractions : List Float
  pub under : Float

abbrev pub mix : List Float → Float → Mix
mix x ε = record { fractions = x; under = ε }

-- a model, or none; T and fractions, each perhaps unset; the tolerance of fractions to come
pub record Book : Type 0 where
  pub model : Option Held
  pub T : Option Float
  pub x : Option Mix
  pub tolerance : Float

abbrev pub book : Option Held → Option Float → Option Mix → Float → Book
book d T x ε = record { model = d; T = T; x = x; tolerance = ε }

unfoldable pub empty : Book
empty = book none none none +0

-- ---- what a call changes

-- f with v for i, j
unfoldable pub replaced : {A : Type 0} → (ℕ → ℕ → A) → ℕ → ℕ → A → ℕ → ℕ → A
replaced f i j v k l = cond (eqb k i && eqb l j) v (f k l)

-- the same model with other values
abbrev pub holding : Held → Table → (ℕ → ℕ → TdParam) → Table → Table → Held
holding d entry td_entry size count =
    record {
      model = d.model;
      n = d.n;
      ng = d.ng;
      lists = record { length = d.lists.length; group = d.lists.group; count = count };
      entry = entry;
      td_entry = td_entry;
      size = size;
    }

-- a setting replaces one entry, one td entry's five, one size or one count
unfoldable pub set_in : Setting → Held → Held
set_in (Temperature T) d = d
set_in (Entry i j v) d = holding d (replaced d.entry i j v) d.td_entry d.size d.lists.count
set_in (TdEntry i j p) d = holding d d.entry (replaced d.td_entry i j p) d.size d.lists.count
set_in (Size i which v) d = holding d d.entry d.td_entry (replaced d.size i which v) d.lists.count
set_in (Count i j v) d = holding d d.entry d.td_entry d.size (replaced d.lists.count i j v)
set_in (Tolerance ε) d = d

-- or T
unfoldable pub set_t : Setting → Option Float → Option Float
set_t (Temperature T) o = some T
set_t (Entry i j v) o = o
set_t (TdEntry i j p) o = o
set_t (Size i which v) o = o
set_t (Count i j v) o = o
set_t (Tolerance ε) o = o

-- or the tolerance of fractions to come
unfoldable pub set_tolerance : Setting → Float → Float
set_tolerance (Temperature T) u = u
set_tolerance (Entry i j v) u = u
set_tolerance (TdEntry i j p) u = u
set_tolerance (Size i which v) u = u
set_tolerance (Count i j v) u = u
set_tolerance (Tolerance ε) u = ε

unfoldable pub set_model : Setting → Option Held → Option Held
set_model s none = none
set_model s (some d) = some (set_in s d)

-- the book after an accepted call
unfoldable pub book_after : Book → Call → Book
book_after b Open = empty
book_after b (Load d) = book (some (held d)) none none usual_tolerance
book_after b (Set s) = book (set_model s b.model) (set_t s b.T) b.x (set_tolerance s b.tolerance)
book_after b (Fractions x) = book b.model b.T (some (mix x b.tolerance)) b.tolerance
book_after b (Query q) = b

-- ---- the cells that calls touch: those with an input that a call loads or sets

-- a load loads all inputs but T, a setting sets what it names, no other call loads or sets any
unfoldable pub gives : Call → Name → Bool
gives Open a = false
gives (Load d) a = not (same a temperature)
gives (Set s) a = same a (named s)
gives (Fractions x) a = false
gives (Query q) a = false

-- one of the calls gives an input of cell i, j
unfoldable pub touched : Model → List Call → ℕ → ℕ → Bool
touched m calls i j = any_of calls (λ c. any_of (inputs m i j) (gives c))

-- how many cells of the model the calls touch
unfoldable pub touched_cells : Held → List Call → ℕ
touched_cells d calls = how_many_pairs (width d) (width d) (λ i j. is_cell d i j && touched d.model calls i j)

-- ---- the accepted calls

-- an answered query, where accepted
unfoldable pub is_query : Call → Bool
is_query Open = false
is_query (Load d) = false
is_query (Set s) = false
is_query (Fractions x) = false
is_query (Query q) = true

-- of the accepted calls, the latest first, those since the last answered query
unfoldable pub since : List Call → List Call
since [] = []
since (c ∷ past) = cond (is_query c) [] (c ∷ since past)

-- ---- answers

-- the model's reference at the holdings
unfoldable pub plain : Held → Float → List Float → Quantity → Float
plain d T x q =
    by_model d.model (wilson_at d.n (λ i. d.size i 0) d.entry T (at x) q)
    (uniquac_at d.n (λ i. d.size i 0) (λ i. d.size i 1) d.entry T (at x) q)
    (nrtl_at d.n d.td_entry d.entry T (at x) q)
    (unifac_at d.n d.ng d.lists (λ k. d.size k 0) (λ k. d.size k 1) d.td_entry T (at x) q)

-- what is held, or the number k where there is none
unfoldable pub having : {A : Type 0} → ℕ → Option A → (A → Answer) → Answer
having k none f = Refused k
having k (some a) f = f a

-- to a setting: 8, no model
unfoldable pub setting_answer : Book → Setting → Answer
setting_answer b s = having 8 b.model (λ d. unless (case_fault d s) Done)

-- to a query, `past` being the accepted calls, the latest first: 8, no model; 9, T or fractions unset
unfoldable pub query_answer : Book → List Call → Quantity → Answer
query_answer b past q =
    having 8 b.model (λ d. having 9 b.T (λ T. having 9 b.x (λ x.
    unless (index_fault d.n q) (Value (plain d T x.fractions q) (touched_cells d (since past))))))

-- to a call
unfoldable pub book_answer : Book → List Call → Call → Answer
book_answer b past Open = Done
book_answer b past (Load d) = unless (data_fault d) Done
book_answer b past (Set s) = setting_answer b s
book_answer b past (Fractions x) = having 8 b.model (λ d. unless (mix_fault b.tolerance d.n x) Done)
book_answer b past (Query q) = query_answer b past q

abbrev pub accepted : Book → List Call → Call → Bool
accepted b past c = eqb (number_of (book_answer b past c)) 0

-- a refused call changes nothing
unfoldable pub book_answers : Book → List Call → List Call → List Answer
book_answers b past [] = []
book_answers b past (c ∷ cs) =
    book_answer b past c
    ∷ cond (accepted b past c) (book_answers (book_after b c) (c ∷ past) cs) (book_answers b past cs)

-- the book after the calls
unfoldable pub book_of : Book → List Call → List Call → Book
book_of b past [] = b
book_of b past (c ∷ cs) = cond (accepted b past c) (book_of (book_after b c) (c ∷ past) cs) (book_of b past cs)

-- the accepted calls, the latest first, after the calls
unfoldable pub past_of : Book → List Call → List Call → List Call
past_of b past [] = past
past_of b past (c ∷ cs) = cond (accepted b past c) (past_of (book_after b c) (c ∷ past) cs) (past_of b past cs)
