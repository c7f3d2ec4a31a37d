-- What an accepted load brings is what the book's holdings are written out to: each part of the values is read in its
-- order.
use mathlib.Core.Path.{◌≡◌, refl, ◌∙◌}
use mathlib.Core.List.{List}
use Prim.Native.Nat.{ℕ, ◌+◌, ◌*◌, ◌≤◌}
use native.Mathlib.Nat.{zero-add}
use native.Mathlib.Omega.{arith}
use lib.ListN.{length, get_or, take}
use lib.Seq.{take-add, take_all}
use lib.Ieee.{Float, nan}
use Rattle.arithmetic.specs.Tables.{at, from}
use Rattle.arithmetic.proofs.TableLaws.{from_at}
use Rattle.models.specs.Values.{td_grid, wilson_size, energies, volumes, uniquac_size, rs, qs, nrtl_size, taus, alphas, counts_at, group_rs, group_qs, group_as, start, unifac_size, lists}
use Rattle.models.proofs.GroupListLaws.{list_place}
use Rattle.models.specs.declared.model.Model.{Model}
use Rattle.models.specs.declared.model.Model.TheVariants.{Wilson, Uniquac, Nrtl, Unifac}
use Rattle.mixture.specs.Lists.{row, rows}
use Rattle.mixture.specs.Holdings.{held, entries, td_entries, sizes}
use Rattle.models.specs.Model.{ModelData, size_of}
use Rattle.mixture.specs.WrittenBack.{values_in, WrittenBack}
use Rattle.mixture.proofs.PlaceLaws.{D}
use Rattle.mixture.proofs.History.RangeLaws.{sound}
use Rattle.mixture.proofs.RowLaws.{before, before-lens, row_is, rows_is, table_is, tds-is}

-- ---- lists

lens-back : (lens : List ℕ) (n : ℕ) → length lens ≡ n → row n (λ i. get_or lens i 0) ≡ lens
lens-back lens n e = row_is lens 0 0 n (λ i. get_or lens i 0) (λ k b. rw (zero-add k)) (omega arith) ∙ take_all n lens (omega arith)

groups-back : (lens groups : List ℕ) (n : ℕ) → length groups ≡ start lens n → rows n (λ i. get_or lens i 0) (λ i p. get_or groups (start lens i + p) 0) ≡ groups
groups-back lens groups n e =
    rows_is groups 0 0 n (λ i. get_or lens i 0) (λ i p. get_or groups (start lens i + p) 0)
    (λ i p b h. rw (before-lens lens i, zero-add (start lens i + p))) (omega (arith, before-lens lens n))
    ∙ take_all (before (λ i. get_or lens i 0) n) groups (omega (arith, before-lens lens n))

-- ---- values

module _ (d : ModelData) where
  abbrev n : ℕ
  n = d.n

  abbrev ng : ℕ
  ng = d.ng

  abbrev lens : List ℕ
  lens = d.lens

  abbrev v : List Float
  v = d.values

  -- the energies of Wilson and UNIQUAC
  energies-back : n * n ≤ length v → rows n (λ _. n) (energies n v) ≡ take (n * n) v
  unfolding energies
  energies-back h = table_is v 0 nan n n (energies n v) (λ i j b c. rw (zero-add (i * n + j))) (omega arith)

  values-back : (k : Model) → length v ≡ size_of (D d k) → values_in (held (D d k)) ≡ v
  unfolding values_in entries td_entries sizes volumes wilson_size rs qs uniquac_size taus td_grid alphas nrtl_size group_rs group_qs group_as counts_at unifac_size lists
  values-back Wilson e =
      rw (energies-back (omega arith), row_is v (n * n) nan n (volumes n v) (λ i b. refl) (omega arith), ← (take-add (n * n) n v))
      (take_all (n * n + n) v (omega arith))
  values-back Uniquac e =
      rw (
        energies-back (omega arith),
        row_is v (n * n) nan n (rs n v) (λ i b. refl) (omega arith),
        row_is v (n * n + n) nan n (qs n v) (λ i b. refl) (omega arith),
        ← (take-add (n * n) n v),
        ← (take-add (n * n + n) n v),
      )
      (take_all (n * n + n + n) v (omega arith))
  values-back Nrtl e =
      rw (
        tds-is v 0 n n (taus n v) (λ i j b c. rw (zero-add ((i * n + j) * 5))) (omega arith),
        table_is v (n * n * 5) nan n n (alphas n v) (λ i j b c. refl) (omega arith),
        ← (take-add (n * n * 5) (n * n) v),
      )
      (take_all (n * n * 5 + n * n) v (omega arith))
  values-back Unifac e =
      rw (
        row_is v 0 nan ng (group_rs ng v) (λ i b. rw (zero-add i)) (omega arith),
        row_is v ng nan ng (group_qs ng v) (λ i b. refl) (omega arith),
        tds-is v (ng + ng) ng ng (group_as ng v) (λ i j b c. refl) (omega arith),
        rows_is v (ng + ng + ng * ng * 5) nan n (λ i. get_or lens i 0) (λ i p. at (from (ng + ng + ng * ng * 5) v) (start lens i + p))
            (λ i p b h. rw (before-lens lens i) (from_at v (ng + ng + ng * ng * 5) (start lens i + p) (omega (arith, list_place lens i n p b h)))) (omega (arith, before-lens lens n)),
        ← (take-add ng ng v),
        ← (take-add (ng + ng) (ng * ng * 5) v),
        ← (take-add (ng + ng + ng * ng * 5) (before (λ i. get_or lens i 0) n) v),
      )
      (take_all (ng + ng + ng * ng * 5 + before (λ i. get_or lens i 0) n) v (omega (arith, before-lens lens n)))

pub written_back : WrittenBack
unfolding lists
written_back d f =
    let s = sound d f in (
      values-back d d.model s.size,
      λ e. let l = s.lists e in (lens-back d.lens d.n l.lens, groups-back d.lens d.groups d.n l.places),
    )
