-- The refilled cells hold E, and Wilson's value is over them.
use Rattle.std.proofs.Common.{arith}
use Rattle.mixture.proofs.query.SolvedLaws.{asked-room, wilson-solved}
use Rattle.mixture.proofs.query.wilson.Goals as goal

pub returns : goal.returns
returns c =
    let h = c.args.head.now in
    wilson-solved h.n c.args.values.now h.t _ _ c.requires.index (omega (arith, asked-room c.requires)) c.refill-count.ensures c.value_over-value.ensures
