-- The sum of the first i lengths is where list i starts.
use Rattle.std.proofs.Common.{◌∙◌, take, rules, tests, arith}
use Rattle.std.proofs.lemmas.Iterator.{YieldsList-from_map, YieldsList-from_slice}
use Rattle.std.proofs.lemmas.Iterator.Consumers.{sum_by_from_yields_List, fits_by_from_yields_list}
use Rattle.models.proofs.GroupListLaws.{start_sum, start_bound}
use Rattle.models.proofs.groups.start_of.Goals as goal

pub sum-requires-clause-fits : goal.sum-requires-clause-fits
sum-requires-clause-fits c =
    let a = c.args in
    fits_by_from_yields_list (λ x. x) (take a.i a.lens.now) c.map.result _
    (YieldsList-from_map _ (λ x. x) (YieldsList-from_slice (take a.i a.lens.now) cc) c.map.ensures.closure (λ x r q k. search (rules, tests)))
    (rw (start_sum a.lens.now a.i c.requires.0) (omega (arith, start_bound a.lens.now a.i (λ k. omega (arith, c.type_inv.lens k)), c.requires)))

pub returns : goal.returns
returns c =
    let a = c.args in
    sum_by_from_yields_List (λ x. x) (take a.i a.lens.now) c.map.result _ c.sum.ensures.ran
    (YieldsList-from_map _ (λ x. x) (YieldsList-from_slice (take a.i a.lens.now) cc) c.map.ensures.closure (λ x r q k. search (rules, tests)))
    ∙ start_sum a.lens.now a.i c.requires.0
