use Rattle.std.proofs.Common.{◌∙◌, refl, arith, length-take-le}
use Rattle.std.proofs.lemmas.List.{take-append-le}
use Rattle.arithmetic.specs.Bytes.{floats_at}
use Rattle.arithmetic.proofs.ByteLaws.{floats-done, floats-more}
use Rattle.arithmetic.proofs.bytes.fill_floats.Goals as goal

pub loop-k-init : goal.loop-k-init
unfolding floats_at
loop-k-init c = refl

pub loop-k-preserved : goal.loop-k-preserved
loop-k-preserved c =
    let l = c.loop-k in
    floats-more _ _ l.v-items l.k _ (omega arith) l.invariant c.float_at.ensures

pub returns : goal.returns
returns c =
    let l = c.loop-k in
    let n = length-take-le c.args.n c.args.a.now c.requires.0 in
    floats-done _ _ c.args.n l.k _ (omega arith) (take-append-le l.k l.v-items _ (omega arith) ∙ l.invariant)
