-- The refilled cells hold E, and UNIQUAC's value is over them.
use Rattle.std.proofs.Common.{arith}
use Rattle.mixture.proofs.query.SolvedLaws.{asked-room, uniquac-solved}
use Rattle.mixture.proofs.query.uniquac.Goals as goal

pub returns : goal.returns
returns c =
    let h = c.args.head.now in
    uniquac-solved h.n c.args.values.now h.t _ _ c.requires.index (omega (arith, asked-room c.requires)) c.refill-count.ensures c.value_over-value.ensures
