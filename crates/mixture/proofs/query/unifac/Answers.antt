-- The refilled cells hold Ψ, and UNIFAC's value is over them.
use Rattle.std.proofs.Common.{◌*◌, ◌≤◌, mul-le-mul, arith}
use Rattle.arithmetic.proofs.TableLaws.{from-length}
use Rattle.models.specs.Values.{counts_at}
use Rattle.mixture.proofs.query.SolvedLaws.{unifac-solved}
use Rattle.mixture.proofs.query.unifac.Goals as goal

pub value_by-value-requires : goal.value_by-value-requires
unfolding counts_at
value_by-value-requires c =
    let h = c.args.head.now in
    let p = c.requires.0 in
    let a = c.requires.1 in
    let square : h.ng * h.ng ≤ 1024 = mul-le-mul p.few_groups p.few_groups in (
      record {
        loaded =
            record {
              some = p.some;
              few = p.few;
              some_groups = p.some_groups;
              few_groups = p.few_groups;
              tables = omega (arith, p.few_groups, a.values);
              listed = record { many = omega (arith, p.few); within = omega (arith, p.places); counted = omega (arith, p.few_groups, a.values, from-length (counts_at h.ng) c.args.values.now, p.places); below = p.below };
            };
        fractions = omega (arith, p.few);
        index = a.index;
      },
      omega (arith, c.refill-count.auto, a.cells),
    )

pub returns : goal.returns
returns c =
    let h = c.args.head.now in
    let square : h.ng * h.ng ≤ 1024 = mul-le-mul c.requires.0.few_groups c.requires.0.few_groups in
    unifac-solved h.ng c.args.values.now h.t _ (omega (arith, c.requires.0.few_groups, c.requires.1.values)) c.log.ensures _ c.refill-count.ensures c.value_by-value.ensures
