use Rattle.std.proofs.Common.{arith}
use Rattle.models.proofs.GroupListLaws.{start_none}
use Rattle.models.proofs.groups.GroupLists.each.Goals as goal

pub invariant_of-result : goal.invariant_of-result
invariant_of-result c = record { within = omega arith; here = start_none _ }
