-- The table is filled with τ at T; the refilled cells hold G, and the value is over both.
use Rattle.std.proofs.Common.{arith}
use Rattle.std.proofs.lemmas.List.{length-replicate}
use Rattle.models.specs.Values.{nrtl_size}
use Rattle.mixture.proofs.query.SolvedLaws.{asked-room, nrtl-solved}
use Rattle.mixture.proofs.query.nrtl_within.Goals as goal

pub fill_taus-requires : goal.fill_taus-requires
unfolding nrtl_size
fill_taus-requires g c = (c.requires.0.few, omega (arith, asked-room c.requires.0), simp length-replicate c.requires.1)

pub returns : goal.returns
returns g c =
    let h = c.args.head.now in
    nrtl-solved h.n c.args.values.now h.t _ _ c.requires.0.index (omega (arith, asked-room c.requires.0)) c.fill_taus.ensures c.refill-count.ensures
    c.value_over-value.ensures
