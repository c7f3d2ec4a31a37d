-- Inner steps of UNIFAC's code: a row of exponentials, and ln γ from what all components share.
use Rattle.std.specs.Prelude.{◌≡◌, List, Option, MatchOption, ℕ, ◌+◌, ◌*◌, ◌≤◌, ◌<◌, length, Float}
use Rattle.std.specs.Borrow.{Bor}
use denote.Triple.Both.{Both}
use Rattle.std.specs.Float.Ieee.{neg}
use Rattle.arithmetic.specs.Floats.{◌⊕◌, ◌⊘◌}
use Rattle.arithmetic.specs.Exponential.{exp_of}
use Rattle.arithmetic.specs.Parameters.{td_by}
use Rattle.arithmetic.specs.Tables.{Table, Vector, at, from, grid, Filled}
use Rattle.models.specs.declared.answers.Quantity.{Quantity}
use Rattle.models.specs.declared.groups.GroupList.{GroupList}
use Rattle.models.specs.declared.groups.GroupLists.{GroupLists}
use Rattle.models.specs.declared.groups.Each.{Each}
use Rattle.models.specs.declared.unifac.terms.Mixture.{Mixture}
use Rattle.models.specs.declared.unifac.terms.Shared.{Shared}
use Rattle.models.specs.Faults.{index_fault}
use Rattle.models.specs.Unifac.{Groups, size, size_sum, combinatorial_by, ln_group, residual}
use Rattle.models.specs.Values.{five_at, lists, counts_at}
use Rattle.models.specs.Steps.GroupLists.{Loaded, SameList, own}

-- what a call's slice holds: numbers by one index, and a table by full rows of n
abbrev pub vector_of : {A : Type 0} → Both (Bor (List Float)) A → Vector
vector_of l = at l.entry.now

abbrev pub table_of : {A : Type 0} → ℕ → Both (Bor (List Float)) A → Table
table_of n l = grid n l.entry.now

-- a component's list, as every component's, and the lists of all
abbrev pub list_of : GroupList → Groups
list_of l = own l.groups.now l.counts.now

abbrev pub lists_of : GroupLists → Groups
lists_of l = lists l.lens.now l.groups.now l.counts.now

-- l is the list of component i
pub record IsList (all : GroupLists) (i : ℕ) (l : GroupList) : Type 0 where
  pub groups : l.ng ≡ all.ng
  pub same : SameList all.ng (list_of l) (lists_of all) i

-- a step through the lists of all gives the next component and its list, until none is left
abbrev pub GivesNext : Each → Option (ℕ × GroupList) → Each → Type 0
GivesNext s r t =
    MatchOption r (s.lists.n ≤ s.i) (λ p. (s.i < s.lists.n) × (p.0 ≡ s.i) × IsList s.lists s.i p.1 × (t.lists ≡ s.lists) × (t.i ≡ s.i + 1))

-- what a mixture holds: the sizes R and Q of the groups, Ψ and the fractions
abbrev pub r_of : Mixture → Vector
r_of m = at m.r.now

abbrev pub q_of : Mixture → Vector
q_of m = at m.q.now

abbrev pub psi_of : Mixture → Table
psi_of m = grid m.lists.ng m.psi.now

abbrev pub x_of : Mixture → Vector
x_of m = at m.x.now

-- m has its lists, R, Q and the counts from the values
pub record HasData (n ng : ℕ) (lens groups : List ℕ) (values psi x : List Float) (m : Mixture) : Type 0 where
  pub components : m.lists.n ≡ n
  pub width : m.lists.ng ≡ ng
  pub lengths : m.lists.lens.now ≡ lens
  pub names : m.lists.groups.now ≡ groups
  pub counts : m.lists.counts.now ≡ from (counts_at ng) values
  pub rs : m.r.now ≡ values
  pub qs : m.q.now ≡ from ng values
  pub psis : m.psi.now ≡ psi
  pub fractions : m.x.now ≡ x

-- Ψ of column k, from a row of td entries and L = log(T)
unfoldable pub psi_by : List Float → Float → Float → ℕ → Float
psi_by row T L k = exp_of (neg (td_by (five_at row (k * 5)) T L) ⊘ T)

-- the data, the fractions and the component that a value reads are there
pub record UnifacFits (n ng : ℕ) (lens groups : List ℕ) (values x : List Float) (q : Quantity) : Type 0 where
  pub loaded : Loaded n ng lens groups values
  pub fractions : n ≤ length x
  pub index : index_fault n q ≡ 0

-- s has what the components share: their sizes r and q, and the sums of these
pub record Shares (n : ℕ) (c : Groups) (R Q x : Vector) (s : Shared) : Type 0 where
  pub r_each : Filled (size c R) n s.r
  pub q_each : Filled (size c Q) n s.q
  pub r_sum : s.rs ≡ size_sum n c R x
  pub q_sum : s.qs ≡ size_sum n c Q x

-- the combinatorial term of component i from that
unfoldable pub combinatorial_from : Shared → ℕ → Float
combinatorial_from s i = combinatorial_by (at s.q i) (at s.r i ⊘ s.rs) (at s.q i ⊘ s.qs)

-- and ln γ, with Θ and a table P of the pure ln Γ
unfoldable pub ln_from : Shared → ℕ → Groups → Vector → Table → Vector → Table → ℕ → Float
ln_from s ng c Q Ψ Θ P i = combinatorial_from s i ⊕ residual c (ln_group ng Q Ψ Θ) P i
