-- The block of the cells that a setting makes stale: each case is the definition's.
use Rattle.std.proofs.Common.{◌∙◌, inl, inr}
use Rattle.mixture.specs.Steps.Blocks.{block_of}
use Rattle.mixture.proofs.set.block_of.Goals as goal

pub returns-in-Temperature : goal.returns-in-Temperature
unfolding block_of
returns-in-Temperature c = rw c.in-Temperature.is

pub returns-in-Entry : goal.returns-in-Entry
unfolding block_of
returns-in-Entry c = c.entry_block.ensures ∙ rw c.in-Entry.is

pub returns-in-TdEntry : goal.returns-in-TdEntry
unfolding block_of
returns-in-TdEntry c = rw c.in-TdEntry.is

pub returns-in-Size : goal.returns-in-Size
unfolding block_of
returns-in-Size c =
    elim c.in-Size.is [
      | inl e ↦ rw e.3
      | inr (inl e) ↦ rw e.3
      | inr (inr e) ↦ rw e.1
    ]
