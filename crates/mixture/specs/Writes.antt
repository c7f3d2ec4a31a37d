-- Demand 1: what each call declines, that a declined call leaves memory and head, and that no call changes a place which
-- document 01 doesn't name for it. All of it on any memory and with any head.
use Rattle.std.specs.Prelude.{◌≡◌, Bool, true, false, not, ◌&&◌, ℕ, ◌+◌, ◌*◌, ◌/◌, ◌%◌, ◌<◌, leb, ltb, eqb, length, get_or}
use Rattle.arithmetic.specs.Tables.{at}
use Rattle.mixture.specs.declared.head.Head.{Head}
use Rattle.models.specs.declared.model.Model.TheVariants.{Unifac}
use Rattle.mixture.specs.Answers.{number_of}
use Rattle.mixture.specs.Holdings.{Held, held}
use Rattle.mixture.specs.Cells.{width}
use Rattle.mixture.specs.Memory.{Memory}
use Rattle.mixture.specs.Layout.{data_in, place, numbers, cell_at}
use Rattle.mixture.specs.Calls.{stales}
use Rattle.mixture.specs.Faults.{memory_fault, load_fault, setting_fault, fractions_fault, query_fault}
use Rattle.mixture.specs.Book.{Call, Open, Load, Set, Fractions, Query}
use Rattle.mixture.specs.History.{after_call}

-- ---- declined calls

unfoldable pub call_fault : Memory → Head → Call → ℕ
call_fault m h Open = memory_fault m
call_fault m h (Load d) = load_fault m d
call_fault m h (Set s) = setting_fault m h s
call_fault m h (Fractions x) = fractions_fault m h x
call_fault m h (Query q) = query_fault m h q

-- a number is returned if its condition holds and none earlier does, and otherwise never
abbrev pub Numbers : Type 0
Numbers = (m : Memory) (h : Head) (c : Call) → number_of (after_call m h c).answer ≡ call_fault m h c

abbrev pub Declined : Type 0
Declined = (m : Memory) (h : Head) (c : Call) → (call_fault m h c ≡ 0 → ⊥)
    → ((after_call m h c).memory ≡ m) × ((after_call m h c).head ≡ h)

-- ---- the places that a call may write

-- the model that it finds, or brings
abbrev pub held_by : Memory → Head → Call → Held
held_by m h Open = held (data_in m h)
held_by m h (Load d) = held d
held_by m h (Set s) = held (data_in m h)
held_by m h (Fractions x) = held (data_in m h)
held_by m h (Query q) = held (data_in m h)

-- which of values, of cells and of marks
pub record Places : Type 0 where
  pub values : ℕ → Bool
  pub cells : ℕ → Bool
  pub marks : ℕ → Bool

abbrev pub no_places : Places
no_places = record { values = λ k. false; cells = λ c. false; marks = λ c. false }

-- a load the model's values and the marks of all cells; a setting the numbers of what it names and the marks of those that it
-- makes stale; a query the stale cells and their marks
unfoldable pub places : Memory → Head → Call → Places
places m h Open = no_places
places m h (Load d) = record { values = λ k. ltb k (length d.values); cells = λ c. false; marks = λ c. true }
places m h (Set s) =
    record {
      values = λ k. leb (place (data_in m h) s) k && ltb k (place (data_in m h) s + length (numbers s));
      cells = λ c. false;
      marks = λ c. stales (held (data_in m h)) s (c / width (held (data_in m h))) (c % width (held (data_in m h)));
    }
places m h (Fractions x) = no_places
places m h (Query q) =
    record {
      values = λ k. false;
      cells = λ c. not (eqb (get_or m.marks c 0) 1);
      marks = λ c. not (eqb (get_or m.marks c 0) 1);
    }

-- all other places keep what they held
pub record Writes (value cell mark : ℕ → Bool) (m m' : Memory) : Type 0 where
  pub values : (k : ℕ) → value k ≡ false → at m'.values k ≡ at m.values k
  pub cells : (c : ℕ) → cell c ≡ false → at m'.cells c ≡ at m.cells c
  pub marks : (c : ℕ) → mark c ≡ false → get_or m'.marks c 0 ≡ get_or m.marks c 0
  pub lengths : (length m'.values ≡ length m.values) × (length m'.cells ≡ length m.cells) × (length m'.marks ≡ length m.marks)

-- of cells and marks only those of the model's cells
abbrev pub OnlyThere : Type 0
OnlyThere = (m : Memory) (h : Head) (c : Call)
    → Writes (places m h c).values (λ k. cell_at (held_by m h c) k && (places m h c).cells k) (λ k. cell_at (held_by m h c) k && (places m h c).marks k)
    m (after_call m h c).memory

-- ---- the diagonal

-- the unused diagonal places of Wilson, UNIQUAC and NRTL are never written
abbrev pub DiagonalKept : Type 0
DiagonalKept = (m : Memory) (h : Head) (c : Call) (i : ℕ) → ((held_by m h c).model ≡ Unifac → ⊥) → i < (held_by m h c).n
    → (at (after_call m h c).memory.cells (i * (held_by m h c).n + i) ≡ at m.cells (i * (held_by m h c).n + i))
    × (get_or (after_call m h c).memory.marks (i * (held_by m h c).n + i) 0 ≡ get_or m.marks (i * (held_by m h c).n + i) 0)
