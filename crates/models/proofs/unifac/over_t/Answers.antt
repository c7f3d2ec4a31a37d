use Rattle.std.proofs.Common.{ap, arith}
use lib.Ieee.{neg}
use Rattle.arithmetic.specs.Floats.{◌⊘◌}
use Rattle.arithmetic.proofs.TableLaws.{rewriting_none, rewriting_next, rewriting_more, rewriting_filled}
use Rattle.models.proofs.unifac.over_t.Goals as goal

pub loop-v-init : goal.loop-v-init
loop-v-init c = rewriting_none (omega arith)

pub loop-v-preserved : goal.loop-v-preserved
loop-v-preserved c = rewriting_more (omega arith) (ap (λ v. neg v ⊘ c.args.t) (rewriting_next (omega arith) c.loop-v.invariant)) c.loop-v.invariant

pub returns : goal.returns
returns c = rewriting_filled (omega arith) c.loop-v.invariant
