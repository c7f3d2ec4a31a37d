use Rattle.std.proofs.Common.{ℕ, ◌+◌, ◌≤◌, refl, arith}
use Rattle.arithmetic.proofs.TableLaws.{from-length}
use Rattle.models.specs.Values.{counts_at}
use Rattle.models.proofs.unifac.terms.Mixture.of.Goals as goal

-- Q ends before the counts, and these start within the values
before-counts : (ng : ℕ) → ng + ng ≤ counts_at ng
unfolding counts_at
before-counts ng = omega arith

pub slice_bounds-result-count : goal.slice_bounds-result-count
slice_bounds-result-count c = omega (arith, before-counts c.args.ng, c.requires.0.tables)

pub slice_bounds-result-start : goal.slice_bounds-result-start
slice_bounds-result-start c = omega (arith, before-counts c.args.ng, c.requires.0.tables)

pub invariant_of-result : goal.invariant_of-result
invariant_of-result c =
    let ng = c.args.ng in
    let values = c.args.values.now in
    let room = before-counts ng in
    let tables = c.requires.0.tables in
    record { few_groups = c.requires.0.few_groups; rs = omega arith; qs = omega (arith, from-length ng values); square = c.requires.1; fractions = c.requires.2 }

pub returns : goal.returns
returns c = record { components = refl; width = refl; lengths = refl; names = refl; counts = rw c.counts_at-place.ensures.0; rs = refl; qs = refl; psis = refl; fractions = refl }
