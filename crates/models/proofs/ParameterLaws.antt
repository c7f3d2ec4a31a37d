-- Entries of five, read off a part.
use mathlib.Core.Path.{◌≡◌, ap, ◌∙◌}
use mathlib.Core.List.{List}
use Prim.Native.Nat.{ℕ, ◌+◌, ◌<◌, ◌≤◌}
use native.Mathlib.Omega.{arith}
use lib.ListN.{length}
use lib.Ieee.{Float}
use Rattle.arithmetic.specs.Tables.{at, from}
use Rattle.arithmetic.proofs.TableLaws.{from_at}
use Rattle.models.specs.Values.{five_at}

-- the five of an entry, in the part that starts at s
pub five-from : (l : List Float) (s k : ℕ) → s + k + 5 ≤ length l → five_at (from s l) k ≡ five_at l (s + k)
unfolding five_at
five-from l s k h =
    rw (from_at l s k (omega arith), next 1 (omega arith), next 2 (omega arith), next 3 (omega arith), next 4 (omega arith))
  where
    next : (d : ℕ) → d < 5 → at (from s l) (k + d) ≡ at l (s + k + d)
    next d b = from_at l s (k + d) (omega arith) ∙ ap (at l) (omega arith)
