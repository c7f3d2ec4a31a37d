-- The floats that were filled in make the definition's setting.
use Rattle.std.proofs.Common.{◌∙◌, arith, ap}
use Rattle.strip.specs.Steps.Run.{kind_number}
use Rattle.strip.proofs.KindLaws.{is_setting_number}
use Rattle.strip.proofs.RecordLaws.{fitting}
use Rattle.strip.proofs.CallLaws.{set_is}
use Rattle.strip.proofs.calls.Mixture.set.Goals as goal

pub fill_floats-requires : goal.fill_floats-requires
fill_floats-requires c =
    let w = fitting _ _ (omega arith) (omega arith) c.requires.fits in
    let n = is_setting_number c.args.kind (ap kind_number c.requires.kind) in
    (omega (arith, w.sized.few n.above), w.floats)

pub returns : goal.returns
returns c =
    let w = fitting _ _ (omega arith) (omega arith) c.requires.fits in
    set_is _ _ c.fill_floats.new.a w (is_setting_number c.args.kind (ap kind_number c.requires.kind)) c.set.ensures
    (c.setting-setting.ensures ∙ rw c.requires.kind) c.five_at.ensures c.fill_floats.ensures.1
