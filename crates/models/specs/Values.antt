-- A model's values in the strip's order (document 01, "Strip and program"), read by their names.
use Rattle.std.specs.Prelude.{List, ℕ, zero, suc, ◌+◌, ◌*◌, get_or, Float}
use Rattle.arithmetic.specs.Tables.{at, grid}
use Rattle.arithmetic.specs.declared.parameters.TdParam.{TdParam}
use Rattle.models.specs.Unifac.{Groups}

-- the five from place s on
unfoldable pub five_at : List Float → ℕ → TdParam
five_at l s = record { a = at l s; b = at l (s + 1); c = at l (s + 2); d = at l (s + 3); e = at l (s + 4) }

-- td entry i, j of a table by rows of n, five each
unfoldable pub td_grid : ℕ → List Float → ℕ → ℕ → TdParam
td_grid n l i j = five_at l ((i * n + j) * 5)

-- Wilson: a by rows, V
unfoldable pub wilson_size : ℕ → ℕ
wilson_size n = n * n + n

-- a_ij of Wilson and UNIQUAC
unfoldable pub energies : ℕ → List Float → ℕ → ℕ → Float
energies n l = grid n l

unfoldable pub volumes : ℕ → List Float → ℕ → Float
volumes n l i = at l (n * n + i)

-- UNIQUAC: a by rows, r's, q's
unfoldable pub uniquac_size : ℕ → ℕ
uniquac_size n = n * n + n + n

unfoldable pub rs : ℕ → List Float → ℕ → Float
rs n l i = at l (n * n + i)

unfoldable pub qs : ℕ → List Float → ℕ → Float
qs n l i = at l (n * n + n + i)

-- NRTL: τ by rows, five each, α
unfoldable pub nrtl_size : ℕ → ℕ
nrtl_size n = n * n * 5 + n * n

unfoldable pub taus : ℕ → List Float → ℕ → ℕ → TdParam
taus n l = td_grid n l

unfoldable pub alphas : ℕ → List Float → ℕ → ℕ → Float
alphas n l i j = at l (n * n * 5 + (i * n + j))

-- UNIFAC: R's, Q's, a by rows, five each; then the counts, list after list
unfoldable pub counts_at : ℕ → ℕ
counts_at ng = ng + ng + ng * ng * 5

unfoldable pub group_rs : ℕ → List Float → ℕ → Float
group_rs ng l k = at l k

unfoldable pub group_qs : ℕ → List Float → ℕ → Float
group_qs ng l k = at l (ng + k)

unfoldable pub group_as : ℕ → List Float → ℕ → ℕ → TdParam
group_as ng l m k = five_at l (ng + ng + (m * ng + k) * 5)

-- how many places stand before the list of component i
unfoldable pub start : List ℕ → ℕ → ℕ
start lens zero = 0
start lens (suc i) = start lens i + get_or lens i 0

unfoldable pub unifac_size : ℕ → ℕ → ℕ
unifac_size ng places = counts_at ng + places

-- the lists of n components: their lengths, their groups list after list, and the counts likewise
unfoldable pub lists : List ℕ → List ℕ → List Float → Groups
lists lens groups counts = record {
  length = λ i. get_or lens i 0;
  group = λ i p. get_or groups (start lens i + p) 0;
  count = λ i p. at counts (start lens i + p);
}
