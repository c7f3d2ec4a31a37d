use Rattle.std.proofs.Common.{◌≡◌, ◌+◌, ◌<◌, [], ◌∷◌, ◌++◌, ◌∙◌, length, take, sym, ap, arith, rules, length-take-le, length-append, get_or-take}
use Rattle.std.proofs.lemmas.Slice.Zip.{zip_turn}
use lib.Ieee.{Float, nan}
use Rattle.arithmetic.specs.Floats.{◌⊗◌}
use Rattle.arithmetic.specs.Sums.{sum}
use Rattle.arithmetic.specs.Tables.{at}
use Rattle.arithmetic.proofs.SumLaws.{sum-none, sum_more}
use Rattle.arithmetic.proofs.sums.dot.Goals as goal

pub loop-a-init : goal.loop-a-init
loop-a-init c = (omega arith, sum-none _)

pub loop-a-preserved : goal.loop-a-preserved
loop-a-preserved c =
    let n = c.args.n in
    let x = c.args.x.now in
    let y = c.args.y.now in
    let ys = c.loop-a.yielded in
    let j = length ys in
    let turn = zip_turn (take n x) (take n y) ys c.into_iter-a-iterator.result c.loop-a.a-iterator c.next.new.self c.next.result (search rules) (search rules) c.loop-a.yielded_by (c.in-Some.a, c.in-Some.b) c.in-Some.is c.next.ensures.steps in
    let long = length-take-le n x c.requires.0 in
    let below : j < n = omega (arith, turn.0) in
    let a : c.in-Some.a.now ≡ at x j = turn.2 nan ∙ get_or-take n x j nan below in
    let b : c.in-Some.b.now ≡ at y j = turn.3 nan ∙ get_or-take n y j nan below in
    let more : length (ys ++ (c.in-Some.a, c.in-Some.b) ∷ []) ≡ j + 1 = length-append ys ((c.in-Some.a, c.in-Some.b) ∷ []) in
    let term : c.in-Some.a.now ⊗ c.in-Some.b.now ≡ at x j ⊗ at y j = ap (λ (z : Float). z ⊗ c.in-Some.b.now) a ∙ ap (λ (z : Float). at x j ⊗ z) b in (
      omega (arith, more),
      sum_more (λ k. at x k ⊗ at y k) j c.loop-a.invariant.1 term ∙ ap (λ m. sum m (λ k. at x k ⊗ at y k)) (sym more),
    )
