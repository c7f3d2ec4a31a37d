-- The floats that were filled in are the definition's fractions.
use Rattle.std.proofs.Common.{arith, ap}
use Rattle.strip.specs.Steps.Run.{kind_number}
use Rattle.strip.proofs.RecordLaws.{fitting}
use Rattle.strip.proofs.CallLaws.{fractions_is}
use Rattle.strip.proofs.calls.Mixture.fractions.Goals as goal

pub fill_floats-requires : goal.fill_floats-requires
fill_floats-requires c =
    let w = fitting _ _ (omega arith) (omega arith) c.requires.fits in
    (omega (arith, w.sized.few (omega (arith, ap kind_number c.requires.kind))), w.floats)

pub returns : goal.returns
returns c = fractions_is _ _ _ _ (ap kind_number c.requires.kind) c.fractions.ensures c.fill_floats.ensures.1
