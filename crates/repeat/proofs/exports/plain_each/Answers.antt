-- The plain call at each temperature.
use Rattle.std.proofs.Common.{ap, ◌∙◌, arith, Float}
use Rattle.models.specs.Faults.{usual_tolerance}
use Rattle.models.specs.Model.{given as data_given}
use Rattle.models.specs.Plain.{plain_call}
use Rattle.repeat.specs.Exports.{plain_value}
use Rattle.repeat.proofs.exports.ExportLaws.{plain-none, plain_more, plain_done}
use Rattle.repeat.proofs.exports.plain_each.Goals as goal

pub loop-k-init : goal.loop-k-init
loop-k-init c = (omega arith, plain-none _ _ _ _)

pub loop-k-preserved : goal.loop-k-preserved
loop-k-preserved c =
    let d = data_given c.args.given in
    (omega arith, plain_more d _ _ _ _ (c.plain_at-last.ensures ∙ ap (λ (t : Float). plain_value (plain_call d t usual_tolerance c.args.x.now c.args.q)) c.float_at-t.ensures))

pub returns : goal.returns
returns c = plain_done _ _ _ _ _ _ c.loop-k.invariant.1 c.loop-k.invariant.0 c.loop-k-test.false
