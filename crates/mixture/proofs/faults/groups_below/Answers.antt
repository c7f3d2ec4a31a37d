-- Whether the first groups are below ng: the test of all of them is the definition's.
use Rattle.std.proofs.Common.{rules, ◌∙◌, ltb, take}
use borrow.Author.Tests.{tests}
use Rattle.std.proofs.lemmas.Iterator.{YieldsList-from_slice}
use Rattle.std.proofs.lemmas.Iterator.Search.{all_from_yields_List}
use Rattle.mixture.proofs.ListLaws.{all_to-list}
use Rattle.mixture.proofs.faults.groups_below.Goals as goal

pub returns : goal.returns
returns c =
    let a = c.args in
    all_from_yields_List (λ g. ltb g a.ng) _ _ c.all.result c.all.ensures.ran (YieldsList-from_slice (take a.places a.groups.now) cc) (λ x b q k. search (rules, tests))
    ∙ all_to-list (λ g. ltb g a.ng) 0 a.groups.now a.places c.requires
