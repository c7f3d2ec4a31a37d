-- The lent memory and the head: document 01, "Mixture".
use Rattle.std.specs.Prelude.{◌≡◌, Bool, ◌||◌, List, ℕ, ltb, length, Float}
use Rattle.models.specs.Limits.{most_values, table_size}
use Rattle.mixture.specs.declared.head.Head.{Head}
use Rattle.mixture.specs.declared.answers.Reply.{Reply}
use Rattle.mixture.specs.Answers.{Answer, answer_of}

-- the three lent slices; a mark of 1 is fresh, any other stale
pub record Memory : Type 0 where
  pub values : List Float
  pub cells : List Float
  pub marks : List ℕ

abbrev pub memory : List Float → List Float → List ℕ → Memory
memory v c k = record { values = v; cells = c; marks = k }

-- memory whose slices have these lengths
abbrev pub OfLengths : ℕ → ℕ → ℕ → Memory → Type 0
OfLengths lv lc lm m = (length m.values ≡ lv) × (length m.cells ≡ lc) × (length m.marks ≡ lm)

-- the least lengths of the three slices
abbrev pub least_values : ℕ
least_values = most_values

abbrev pub least_cells : ℕ
least_cells = table_size

abbrev pub least_marks : ℕ
least_marks = table_size

-- of three slices of these lengths one is short
unfoldable pub short : ℕ → ℕ → ℕ → Bool
short v c k = ltb v least_values || ltb c least_cells || ltb k least_marks

abbrev pub is_short : Memory → Bool
is_short m = short (length m.values) (length m.cells) (length m.marks)

-- what a call leaves: the memory, and the head and answer that it gives back
pub record After : Type 0 where
  pub memory : Memory
  pub head : Head
  pub answer : Answer

abbrev pub after : Memory → Head → Answer → After
after m h a = record { memory = m; head = h; answer = a }

-- the same, of the reply itself
abbrev pub left : Memory → Reply → After
left m r = after m r.head (answer_of r.answer)
