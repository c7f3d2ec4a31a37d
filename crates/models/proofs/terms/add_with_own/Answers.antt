use Rattle.models.proofs.TermLaws.{own_added}
use Rattle.models.proofs.terms.add_with_own.Goals as goal

pub returns : goal.returns
returns g c = λ t gives. own_added _ _ _ _ _ _ c.requires.place c.requires.room (c.add.ensures t gives) c.add.auto.sums
