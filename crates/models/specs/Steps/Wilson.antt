-- Inner contracts: what Wilson's functions read.
use Rattle.std.specs.Prelude.{List, ℕ, ◌*◌, ◌≤◌, Float, length}
use Rattle.models.specs.Limits.{most_components}

-- V, a table of exponentials and the fractions, of n components
pub record WilsonFits (n : ℕ) (v e x : List Float) : Type 0 where
  pub few : n ≤ most_components
  pub sizes : n ≤ length v
  pub table : n * n ≤ length e
  pub fractions : n ≤ length x
