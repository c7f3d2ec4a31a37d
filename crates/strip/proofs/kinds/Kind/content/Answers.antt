-- What follows each kind's head word is the definition's.
use Rattle.std.proofs.Common.{◌≤◌, ◌*◌, arith, refl, sym, ◌∙◌}
use lib.Dec.{eqb}
use Rattle.strip.specs.Records.{shape_of}
use Rattle.strip.proofs.KindLaws.{has_content, few_floats, groups_shape}
use Rattle.strip.proofs.RecordLaws.{square}
use Rattle.strip.proofs.kinds.Kind.content.Goals as goal

pub returns-then-has_groups : goal.returns-then-has_groups
returns-then-has_groups c =
    let q : c.args.j * c.args.j ≤ 65025 = square c.args.j (omega arith) in
    (rw c.in-Load.is (groups_shape _ _ _ (sym c.has_groups.ensures ∙ c.if-has_groups.true)), omega arith)

pub returns-else-has_groups : goal.returns-else-has_groups
returns-else-has_groups c =
    let m = c.in-Load.model in
    let i = c.args.i in
    let j = c.args.j in
    rw c.in-Load.is (few_floats m i j (omega arith) (sym c.has_groups.ensures ∙ c.if-has_groups.false) c.then_some.ensures c.floats_alone.ensures (c.size_of.ensures (omega arith)))

pub returns-in-Set : goal.returns-in-Set
returns-in-Set c = rw c.in-Set.is c.content.ensures

pub returns-in-Fractions : goal.returns-in-Fractions
unfolding shape_of
returns-in-Fractions c =
    rw c.in-Fractions.is (has_content 6 c.args.i c.args.j (eqb c.args.j 0) c.args.i c.then_some-in-Fractions.ensures c.floats_alone-in-Fractions.ensures refl (omega arith))

pub returns-in-Query : goal.returns-in-Query
unfolding shape_of
returns-in-Query c =
    rw c.in-Query.is (has_content 11 c.args.i c.args.j c.is_query.result 0 c.then_some-in-Query.ensures c.floats_alone-in-Query.ensures (rw c.is_query.ensures) (omega arith))
