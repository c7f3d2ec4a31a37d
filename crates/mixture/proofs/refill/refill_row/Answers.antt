-- What is gathered, and has taken its exp, goes to its cell.
use Rattle.std.proofs.Common.{◌≡◌, sym, ◌∙◌, rules, refl, arith}
use Rattle.arithmetic.specs.Tables.{at}
use Rattle.mixture.specs.Lists.{how_many}
use Rattle.mixture.specs.Steps.Refills.{stale_in}
use Rattle.mixture.proofs.RefillLaws.{refilled-fresh}
use Rattle.mixture.proofs.refill.FreshLaws.{none_of}
use Rattle.mixture.proofs.refill.GatherLaws.{gathered-few, gathered_exp}
use Rattle.mixture.proofs.refill.refill_row.Goals as goal

pub returns-then-count-eq0 : goal.returns-then-count-eq0
returns-then-count-eq0 g c = refilled-fresh _ _ _ _ _ (none_of _ _ (sym c.count_row-count.ensures ∙ c.if-count-eq0.true))

pub exp_each-requires : goal.exp_each-requires
exp_each-requires g c = omega (arith, gathered-few c.gather_row.ensures, c.gather_row.auto.out)

pub returns : goal.returns
returns g c =
    let filled = c.fill_stale.ensures _ (λ j r b t e.
    let stands : r ≡ at c.exp_each.new.a (how_many j (stale_in g.I.Inputs.diagonal c.args.marks.now c.args.i)) = search rules in
    stands ∙ gathered_exp (omega (arith, gathered-few c.gather_row.ensures, c.gather_row.auto.out)) c.gather_row.ensures (λ j. refl) c.exp_each.ensures j b t) in
    record { worked = filled.worked; marked = filled.marked; counted = c.count_row-count.ensures }
