use Rattle.std.proofs.Common.{◌≡◌, ◌∙◌, ap, rules, arith}
use lib.Ieee.{Float}
use Rattle.arithmetic.specs.Floats.{◌⊕◌, ◌⊗◌, ◌⊘◌}
use Rattle.arithmetic.specs.Logarithm.{log_of}
use Rattle.arithmetic.specs.Tables.{at, grid}
use Rattle.arithmetic.proofs.TableLaws.{upto_below}
use Rattle.models.specs.Steps.Uniquac.{combinatorial_by, residual_by}
use Rattle.models.specs.Uniquac.{excess}
use Rattle.models.proofs.UniquacLaws.{ln_gamma_listed}
use Rattle.models.proofs.uniquac.Shared.excess_gibbs.Goals as goal

pub returns : goal.returns
unfolding excess
returns c =
    let s = c.args.self.now in
    let o = s.of in
    let few = o.fits.few in
    let phi = c.fill.ensures (λ i. at o.x.now i ⊗ at o.r.now i ⊘ s.rx) (λ k b r p. search rules) in
    let segments = c.fill-2.ensures (λ i. at c.fill.new.out i ⊘ at o.x.now i) (λ k b r p. search rules) in
    let areas = c.fill-3.ensures (λ i. at s.theta.now i ⊘ at c.fill.new.out i) (λ k b r p. search rules) in
    c.sum_of.ensures _
    (λ k b r p.
    let e : r ≡
    at o.x.now k ⊗
    (combinatorial_by (at o.r.now k) (at o.q.now k) (at c.fill-2.new.out k) (at c.log_each.new.a k) (at c.log_each-3.new.a k) s.lx
    ⊕ residual_by o.n (at o.q.now k) (grid o.n o.e.now) (at s.theta.now) (at s.sums.now) (at c.log_each-2.new.a k) k) = search rules
    in
    let ln_segment = c.log_each.ensures.each k (omega (arith, c.fill-2.auto.out, few)) ∙ upto_below o.n (λ k. log_of (at c.fill-2.new.out k)) (at c.fill-2.new.out) k b in
    let ln_sum = c.log_each-2.ensures.each k (omega (arith, c.log_each-2.auto.a, few)) ∙ upto_below o.n (λ k. log_of (at s.sums.now k)) (at s.sums.now) k b in
    let ln_area = c.log_each-3.ensures.each k (omega (arith, c.fill-3.auto.out, few)) ∙ upto_below o.n (λ k. log_of (at c.fill-3.new.out k)) (at c.fill-3.new.out) k b in
    e ∙ ap (λ (z : Float). at o.x.now k ⊗ z)
    (ln_gamma_listed _ _ _ _ _ _ _ _ _ s.worked k b c.fill.new.out c.fill-2.new.out c.log_each.new.a c.fill-3.new.out c.log_each-3.new.a c.log_each-2.new.a (phi.each k b) (segments.each k b)
    ln_segment (areas.each k b) ln_area ln_sum))
