-- Lists of at most 12 have at most 144 places.
use Rattle.std.proofs.Common.{◌≡◌, sym, arith, leb, get_or, true}
use borrow.Author.Tests.{leb-true}
use Rattle.models.specs.Faults.{all_to}
use Rattle.mixture.proofs.History.RangeLaws.{all-at, start-bound}
use Rattle.mixture.proofs.faults.lists_in_range.Goals as goal

pub groups_below-requires : goal.groups_below-requires
groups_below-requires c =
    let a = c.args in
    let short : all_to a.n (λ i. leb (get_or a.lens i 0) 12) ≡ true = sym c.if-not-lists_within.ensures in
    omega (arith, c.start_of-places.ensures, start-bound a.lens a.n (λ i b. leb-true _ _ (all-at _ (λ k. leb (get_or a.lens k 0) 12) short i b)))
