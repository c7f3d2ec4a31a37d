use Rattle.arithmetic.proofs.TableLaws.{taken_by_map}
use Rattle.arithmetic.proofs.elementary.each.Goals as goal

pub returns-then-all : goal.returns-then-all
returns-then-all g c = taken_by_map _ c.args.n c.args.a.now c.requires c.each_easy.ensures

pub returns-else-all : goal.returns-else-all
returns-else-all g c = taken_by_map _ c.args.n c.args.a.now c.requires c.each_careful.ensures
