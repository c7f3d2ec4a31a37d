-- The group lists that UNIFAC's sums may read, and a sum that is kept for every group at once.
use Rattle.std.specs.Prelude.{◌≡◌, cond, List, ℕ, ◌+◌, ◌*◌, ◌<◌, ◌≤◌, eqb, length, get_or, Float}
use Rattle.std.specs.Borrow.{Bor}
use denote.Triple.Both.{Both}
use Rattle.arithmetic.specs.Floats.{◌⊕◌, ◌⊗◌}
use Rattle.arithmetic.specs.Sums.{fold}
use Rattle.arithmetic.specs.Tables.{Table, Vector, at, from}
use Rattle.models.specs.Limits.{most_components, most_groups}
use Rattle.models.specs.Unifac.{Groups}
use Rattle.models.specs.Values.{start, counts_at, lists}

-- the lists of n components lie within the slices, and each group that they name is below ng
pub record Listed (n ng : ℕ) (lens groups : List ℕ) (counts : List Float) : Type 0 where
  pub many : n ≤ length lens
  pub within : start lens n ≤ length groups
  pub counted : start lens n ≤ length counts
  pub below : (p : ℕ) → p < start lens n → get_or groups p 0 < ng

-- one list in slices of its own: a count for each group that it names, each below ng
pub record Paired (ng : ℕ) (list : List ℕ) (counts : List Float) : Type 0 where
  pub counted : length counts ≡ length list
  pub below : (p : ℕ) → p < length list → get_or list p 0 < ng

-- component i lists the same pairs in c and d, of groups below ng
pub record SameList (ng : ℕ) (c d : Groups) (i : ℕ) : Type 0 where
  pub lengths : c.length i ≡ d.length i
  pub groups : (p : ℕ) → p < c.length i → c.group i p ≡ d.group i p
  pub counts : (p : ℕ) → p < c.length i → c.count i p ≡ d.count i p
  pub below : (p : ℕ) → p < c.length i → c.group i p < ng

-- one list in slices of its own, as every component's
abbrev pub own : List ℕ → List Float → Groups
own list counts = record { length = λ _. length list; group = λ _ p. get_or list p 0; count = λ _ p. at counts p }

-- the lists in a call's arguments, with their counts among the values
abbrev pub held_lists : {A B C : Type 0} → ℕ → Both (Bor (List ℕ)) A → Both (Bor (List ℕ)) B → Both (Bor (List Float)) C → Groups
held_lists ng lens groups values = lists lens.entry.now groups.entry.now (from (counts_at ng) values.entry.now)

-- what a load that passes 2 has shown, the lengths of its lists apart
pub record Sized (n ng : ℕ) (lens groups : List ℕ) (values : List Float) : Type 0 where
  pub some : 1 ≤ n
  pub few : n ≤ most_components
  pub some_groups : 1 ≤ ng
  pub few_groups : ng ≤ most_groups
  pub many : length lens ≡ n
  pub places : length groups ≡ start lens n
  pub whole : length values ≡ counts_at ng + start lens n

-- what a load that passes 2 and 3 has shown
pub record Loaded (n ng : ℕ) (lens groups : List ℕ) (values : List Float) : Type 0 where
  pub some : 1 ≤ n
  pub few : n ≤ most_components
  pub some_groups : 1 ≤ ng
  pub few_groups : ng ≤ most_groups
  pub tables : counts_at ng ≤ length values
  pub listed : Listed n ng lens groups (from (counts_at ng) values)

-- g has F of each of the first m groups named, at the group's own place
pub record Named (m : ℕ) (group : ℕ → ℕ) (F : Vector) (g : List Float) : Type 0 where
  pub each : (p : ℕ) → p < m → at g (group p) ≡ F (group p)

-- g has, by rows of ng, F i of each group that component i lists, for the components from first to below last
pub record ListedRows (first last ng : ℕ) (c : Groups) (F : Table) (g : List Float) : Type 0 where
  pub each : (i : ℕ) → first ≤ i → i < last → (p : ℕ) → p < c.length i → at g (i * ng + c.group i p) ≡ F i (c.group i p)

-- s at group k, changed by f at each of the first m places that name k
unfoldable pub gathered : ℕ → (ℕ → ℕ) → (ℕ → Float → Float) → ℕ → Float → Float
gathered m group f k s = fold m s (λ p s. cond (eqb (group p) k) (f p s) s)

-- the number of group k once x·count is added for each place of the list of i that names k
abbrev pub added : Groups → Float → ℕ → ℕ → Float → Float
added c x i k s = gathered (c.length i) (c.group i) (λ p s. s ⊕ x ⊗ c.count i p) k s

-- the number of group k once each place of the list of i that names k has put its count there
abbrev pub put : Groups → ℕ → ℕ → Float → Float
put c i k s = gathered (c.length i) (c.group i) (λ p s. c.count i p) k s
