-- Inner contracts: sums down columns, of slices before and after a call.
use Rattle.std.specs.Prelude.{List, ℕ, Float, length}
use Rattle.std.specs.Borrow.{MutBor}
use denote.Triple.Both.{Both}
use Rattle.arithmetic.specs.Floats.{◌⊕◌}
use Rattle.arithmetic.specs.Tables.{Vector, at, Filled, up_to}

-- each of the first n sums has a term more, and the others are as they were
abbrev pub Added : ℕ → Vector → Both (MutBor (List Float)) (MutBor (List Float)) → Type 0
Added n term sums =
    Filled (up_to n (λ j. at sums.entry.now j ⊕ term j) (at sums.entry.now)) (length sums.entry.now) sums.exit.now
