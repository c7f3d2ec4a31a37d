-- Inner contracts: what NRTL's functions read.
use Rattle.std.specs.Prelude.{List, ℕ, ◌*◌, ◌≤◌, Float, length}
use Rattle.arithmetic.specs.Floats.{+0}
use Rattle.arithmetic.specs.Tables.{Filled}
use Rattle.models.specs.Limits.{most_components}

-- a table of τ at T, one of exponentials and the fractions, of n components
pub record NrtlFits (n : ℕ) (tau g x : List Float) : Type 0 where
  pub few : n ≤ most_components
  pub taus : n * n ≤ length tau
  pub table : n * n ≤ length g
  pub fractions : n ≤ length x

-- a place for each numerator and each denominator
pub record NrtlSums (n : ℕ) (u d : List Float) : Type 0 where
  pub above : n ≤ length u
  pub below : n ≤ length d

-- and +0 in each
pub record NrtlZeros (n : ℕ) (u d : List Float) : Type 0 where
  pub sums : NrtlSums n u d
  pub none_above : Filled (λ _. +0) n u
  pub none_below : Filled (λ _. +0) n d
