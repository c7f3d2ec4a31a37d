-- The call's answer, given as a number and a value.
use Rattle.kiltgrit.proofs.by_bytes.ExportLaws.{given_as}
use Rattle.kiltgrit.proofs.by_bytes.kiltgrit_gamma.Goals as goal

pub returns : goal.returns
returns c = given_as c.args.value.now c.call.ensures c.give.ensures
