-- What the inner functions of a load and a setting say: the head read alone, cells by a block of rows and columns, and a
-- setting's reply by its number. No call's own contract speaks of it.
use Rattle.std.specs.Prelude.{◌≡◌, Bool, true, not, ◌&&◌, ◌||◌, cond, List, [], ℕ, ◌+◌, ◌*◌, ◌/◌, ◌%◌, ◌≤◌, leb, ltb, eqb}
use Rattle.std.specs.Borrow.{MutBor}
use denote.Triple.Both.{Both}
use Rattle.models.specs.Limits.{most_components, most_groups, most_listed, most_places}
use Rattle.models.specs.Values.{start}
use Rattle.mixture.specs.declared.head.Head.{Head}
use Rattle.models.specs.declared.model.Model.{Model}
use Rattle.mixture.specs.declared.setting.Setting.{Setting}
use Rattle.mixture.specs.declared.setting.Setting.TheVariants.{Temperature, Entry, TdEntry, Size, Count, Tolerance}
use Rattle.mixture.specs.declared.stale.Block.{Block}
use Rattle.mixture.specs.Answers.{Done, unless}
use Rattle.mixture.specs.Lists.{written}
use Rattle.mixture.specs.Holdings.{held}
use Rattle.models.specs.Model.{ModelData, by_model}
use Rattle.mixture.specs.Faults.{case_fault, in_range}
use Rattle.mixture.specs.Memory.{Memory, memory, After, after}
use Rattle.mixture.specs.Layout.{data_in}
use Rattle.mixture.specs.Calls.{set_head}

-- of the marks those that pass are made 0
abbrev pub Staled : (ℕ → Bool) → Both (MutBor (List ℕ)) (MutBor (List ℕ)) → Type 0
Staled p marks = marks.exit.now ≡ written p (λ c. 0) marks.entry.now

-- the place c is within left and right of row i, which begins at start; on the diagonal only where that has cells
abbrev pub in_row : ℕ → ℕ → ℕ → Bool → ℕ → ℕ → Bool
in_row start left right diagonal i c = leb (start + left) c && ltb c (start + right) && (diagonal || not (eqb c (start + i)))

-- the place c, in rows of w, is one of the block's; on the diagonal only where that has cells
unfoldable pub in_block : ℕ → Bool → Block → ℕ → Bool
in_block w diagonal b c =
    leb b.top (c / w) && ltb (c / w) (b.top + b.rows)
    && (leb b.left (c % w) && ltb (c % w) (b.left + b.columns) && (diagonal || not (eqb (c / w) (c % w))))

-- a block within w rows and columns, of which lm marks hold all
pub record BlockFits (w : ℕ) (b : Block) (lm : ℕ) : Type 0 where
  pub some : 1 ≤ w
  pub few : w ≤ most_groups
  pub rows : b.top + b.rows ≤ w
  pub columns : b.left + b.columns ≤ w
  pub marked : w * w ≤ lm

abbrev pub block : ℕ → ℕ → ℕ → ℕ → Block
block top rows left columns = record { top = top; rows = rows; left = left; columns = columns }

-- an entry's: its own cell, and row i's for an energy a_ii
abbrev pub entry_block : Model → ℕ → ℕ → ℕ → Block
entry_block model w i j = cond (eqb i j) (block i 1 (by_model model 0 0 j j) (by_model model w w 1 1)) (block i 1 j 1)

-- the block of the cells that a setting makes stale, those on the diagonal apart where it has none
unfoldable pub block_of : Model → ℕ → Setting → Block
block_of model w (Temperature T) = block 0 w 0 w
block_of model w (Entry i j v) = entry_block model w i j
block_of model w (TdEntry i j p) = block i 1 j 1
block_of model w (Size i which v) = block 0 0 0 0
block_of model w (Count i j v) = block 0 0 0 0
block_of model w (Tolerance ε) = block 0 0 0 0

-- what a head tells without memory
abbrev pub head_only : Head → ModelData
head_only h = data_in (memory [] [] []) h

-- the head is in range, and its model has what the setting names
pub record Settable (h : Head) (s : Setting) : Type 0 where
  pub range : in_range (head_only h) ≡ true
  pub case : case_fault (held (head_only h)) s ≡ 0

-- a count's indices, and the lists before its own, are within the limits
pub record CountFits (lens : List ℕ) (ng i j : ℕ) : Type 0 where
  pub groups : ng ≤ most_groups
  pub component : i ≤ most_components
  pub listed : j ≤ most_listed
  pub before : start lens i ≤ most_places

-- what a setting leaves of a memory and a head, by the number of what it is declined for
abbrev pub set_after : Memory → ℕ → Head → Setting → After
set_after m k h s = after m (cond (eqb k 0) (set_head h s) h) (unless k Done)
