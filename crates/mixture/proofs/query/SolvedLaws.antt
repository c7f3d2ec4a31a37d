-- What a model needs of memory; its refilled cells hold its exponentials, and its value is that over the cells.
use mathlib.Core.Path.{◌≡◌, refl, ◌∙◌}
use mathlib.Core.Bool.{Bool, true, false}
use mathlib.Core.List.{List}
use Prim.Native.Nat.{ℕ, zero, suc, ◌+◌, ◌*◌, ◌-◌, ◌/◌, ◌%◌, ◌<◌, ◌≤◌}
use native.Mathlib.Nat.{mod-lt, div-lt_iff_lt-mul, mul_assoc, mul-le-mul}
use native.Mathlib.Omega.{arith}
use lib.ListN.{length}
use lib.Ieee.{Float}
use Rattle.arithmetic.specs.Exponential.{exp_of}
use Rattle.arithmetic.specs.Logarithm.{log_of}
use Rattle.arithmetic.specs.Parameters.{td_at}
use Rattle.arithmetic.specs.Tables.{at, grid, from, Filled}
use Rattle.arithmetic.proofs.TableLaws.{cell-lt, from_at}
use Rattle.models.specs.declared.answers.Quantity.{Quantity}
use Rattle.models.specs.Faults.{index_fault}
use Rattle.models.specs.Exponentials.{energy, nonrandomness, group_energy}
use Rattle.models.specs.Values.{five_at, td_grid, energies, volumes, rs, qs, taus, alphas, group_as}
use Rattle.models.specs.Wilson.{wilson}
use Rattle.models.specs.Uniquac.{uniquac}
use Rattle.models.specs.Nrtl.{nrtl}
use Rattle.models.proofs.WilsonLaws.{wilson-same}
use Rattle.models.proofs.UniquacLaws.{uniquac-same}
use Rattle.models.proofs.NrtlLaws.{nrtl-same}
use Rattle.models.proofs.ParameterLaws.{five-from}
use Rattle.models.specs.declared.model.Model.TheVariants.{Wilson, Uniquac, Nrtl, Unifac}
use Rattle.mixture.specs.Steps.Refills.{cell_of, stale_of, taus_at, groups_at, Asked, Refilled, Solved}
use Rattle.mixture.specs.Steps.Inputs.{energy_argument, nonrandomness_argument, group_argument}
use Rattle.mixture.proofs.RefillLaws.{last_row, refilled_as}

-- ---- room

-- what n components, at most 12, need of memory of the least lengths: a table of n·n, whose last row ends within it
pub record Room (n lv lc lm : ℕ) : Type 0 where
  pub few : n ≤ 12
  pub square : n * n ≤ 144
  pub last : (n - 1) * n + n ≤ n * n
  pub values : 5328 ≤ lv
  pub cells : 1024 ≤ lc
  pub marks : 1024 ≤ lm

pub asked-room : {n : ℕ} {q : Quantity} {v c : List Float} {m : List ℕ} → Asked n q v c m → Room n (length v) (length c) (length m)
asked-room {n} a =
    record { few = a.few; square = mul-le-mul a.few a.few; last = last_row n; values = a.values; cells = a.cells; marks = a.marks }

-- ---- equal entries

-- the row and column of a place
place_in : (w c : ℕ) → c < w * w → (c / w < w) × (c % w < w)
place_in w c h = by_width w h
  where
    by_width : (w : ℕ) → c < w * w → (c / w < w) × (c % w < w)
    by_width zero h = absurd (omega arith)
    by_width (suc w) h = ((div-lt_iff_lt-mul {k = suc w} (omega arith)).1 h, mod-lt c (omega arith))

refilled_by : (w : ℕ) {p : ℕ → Bool} (F E : ℕ → ℕ → Float) {cells c : List Float} {marks m : List ℕ} {r : ℕ} → ((i j : ℕ) → i < w → j < w → F i j ≡ E i j)
    → Refilled (w * w) p (λ c. F (c / w) (c % w)) cells marks c m r → Refilled (w * w) p (λ c. E (c / w) (c % w)) cells marks c m r
refilled_by w F E same all = refilled_as (w * w) _ _ _ _ _ (λ c b. let i = place_in w c b in same (c / w) (c % w) i.0 i.1) all

-- ---- Wilson and UNIQUAC

module _ (n : ℕ) (v : List Float) (T : Float) (x : ℕ → Float) (q : Quantity) (z : index_fault n q ≡ 0) where
  pub wilson-solved : {cells c : List Float} {marks m : List ℕ} {r : ℕ} {a : Float} → n * n + n ≤ length v
      → Refilled (n * n) (stale_of false n marks) (cell_of n (energy_argument (grid n v) T)) cells marks c m r
      → a ≡ wilson n (at (from (n * n) v)) (grid n c) x q
      → Solved Wilson n (energy (energies n v) T) (λ E. wilson n (volumes n v) E x q) cells marks c m (record { value = a; count = r })
  unfolding energy energies volumes
  wilson-solved h all e =
      record { refilled = all; solved = e ∙ wilson-same n _ _ _ _ x x (λ i b. from_at v (n * n) i (omega arith)) (λ i b. refl) (λ i j b d ne. refl) q z }

  pub uniquac-solved : {cells c : List Float} {marks m : List ℕ} {r : ℕ} {a : Float} → n * n + n + n ≤ length v
      → Refilled (n * n) (stale_of false n marks) (cell_of n (energy_argument (grid n v) T)) cells marks c m r
      → a ≡ uniquac n (at (from (n * n) v)) (at (from (n * n + n) v)) (grid n c) x q
      → Solved Uniquac n (energy (energies n v) T) (λ E. uniquac n (rs n v) (qs n v) E x q) cells marks c m (record { value = a; count = r })
  unfolding energy energies rs qs
  uniquac-solved h all e =
      record {
        refilled = all;
        solved =
            e
            ∙ uniquac-same n _ _ _ _ x x (λ i b. from_at v (n * n) i (omega arith)) (λ i b. from_at v (n * n + n) i (omega arith)) (λ i b. refl)
            _ _ (λ i j b d ne. refl) q z;
      }

  -- ---- NRTL, with τ at T in the table tl
  module _ {tl : List Float} (h : n * n * 5 + n * n ≤ length v) (ts : Filled (λ k. td_at (five_at v (k * 5)) T) (n * n) tl) where
    tau-entry : (i j : ℕ) → i < n → j < n → grid n tl i j ≡ td_at (taus n v i j) T
    unfolding taus td_grid
    tau-entry i j b d = ts.each (i * n + j) (cell-lt n n i j b d)

    entry_g : (i j : ℕ) → i < n → j < n → exp_of (nonrandomness_argument (grid n (from (n * n * 5) v)) (grid n tl) i j) ≡ nonrandomness (alphas n v) (taus_at n v T) i j
    unfolding alphas nonrandomness
    entry_g i j b d = rw (from_at v (n * n * 5) (i * n + j) (omega (arith, cell-lt n n i j b d)), tau-entry i j b d)

    pub nrtl-solved : {cells c : List Float} {marks m : List ℕ} {r : ℕ} {a : Float} → Refilled (n * n) (stale_of false n marks)
        (cell_of n (nonrandomness_argument (grid n (from (n * n * 5) v)) (grid n tl))) cells marks c m r
        → a ≡ nrtl n (grid n tl) (grid n c) x q
        → Solved Nrtl n (nonrandomness (alphas n v) (taus_at n v T)) (λ G. nrtl n (taus_at n v T) G x q) cells marks c m (record { value = a; count = r })
    nrtl-solved all e =
        record {
          refilled = refilled_by n (λ i j. exp_of (nonrandomness_argument (grid n (from (n * n * 5) v)) (grid n tl) i j)) (nonrandomness (alphas n v) (taus_at n v T)) entry_g all;
          solved = e ∙ nrtl-same n _ _ _ _ x x (λ i j b d ne. tau-entry i j b d) (λ i j b d ne. refl) (λ i b. refl) q z;
        }

-- ---- UNIFAC

module _ (ng : ℕ) (v : List Float) (T : Float) (L : Float) (h : ng + ng + ng * ng * 5 ≤ length v) (ln : L ≡ log_of T) (f : (ℕ → ℕ → Float) → Float) where
  entry_psi : (i j : ℕ) → i < ng → j < ng → exp_of (group_argument (ng * 5) (from (ng + ng) v) T L i j) ≡ group_energy (groups_at ng v T) T i j
  unfolding td_grid group_as group_energy td_at
  entry_psi i j b d =
      let place : i * (ng * 5) + j * 5 ≡ (i * ng + j) * 5 = omega (arith, mul_assoc i ng 5) in
      rw (place, five-from v (ng + ng) ((i * ng + j) * 5) (omega (arith, cell-lt ng ng i j b d)), ln)

  pub unifac-solved : {cells c : List Float} {marks m : List ℕ} {r : ℕ} {a : Float} → Refilled (ng * ng) (stale_of true ng marks)
      (cell_of ng (group_argument (ng * 5) (from (ng + ng) v) T L)) cells marks c m r
      → a ≡ f (grid ng c)
      → Solved Unifac ng (group_energy (groups_at ng v T) T) f cells marks c m (record { value = a; count = r })
  unifac-solved all e =
      record {
        refilled = refilled_by ng (λ i j. exp_of (group_argument (ng * 5) (from (ng + ng) v) T L i j)) (group_energy (groups_at ng v T) T) entry_psi all;
        solved = e;
      }
