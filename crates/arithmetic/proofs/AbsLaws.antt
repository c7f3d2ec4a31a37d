-- |v| compared with a bound, as two comparisons of v.
use Rattle.std.proofs.Common.{◌≡◌, ℕ, ◌+◌, ◌*◌, true, false, ◌&&◌, ◌||◌, eqb, ltb, ℤ, sym, refl, ◌∙◌, inl, inr, add_comm, arith, ltb-false, le-ltb, ne_eqb, eqb-true}
use mathlib.Core.Bool.{and-true, or-true, or-false}
use lib.Ieee.{Float, nan, inf, fin, up, down, lt, eq, le, neg}
use borrow.Author.Tests.{eqb-false}
use Rattle.arithmetic.specs.Floats.{abs}
use Rattle.arithmetic.proofs.Tests.{either}

eqb_comm : (a b : ℕ) → eqb a b ≡ eqb b a
eqb_comm a b =
    elim (either (eqb a b)) [
      | inl h ↦ rw (eqb-true a b h)
      | inr h ↦ h ∙ sym (ne_eqb b a (λ e. eqb-false a b h (sym e)))
    ]

-- -a ≤ b for whole numbers a and b
signs : (a b : ℕ) → ltb 0 (a + b) || (eqb a b && (false || eqb a 0)) ≡ true
signs a b =
    elim (either (ltb 0 (a + b))) [
      | inl h ↦ rw h
      | inr h ↦
          let z = ltb-false 0 (a + b) h in
          let p : a ≡ 0 = omega arith in
          let q : b ≡ 0 = omega arith in
          rw (p, q)
    ]

pub abs-le : (v : Float) (n : ℕ) (e : ℤ) → le (abs v) (fin false n e) ≡ le (fin true n e) v && le v (fin false n e)
unfolding abs le lt eq
abs-le nan n e = refl
abs-le (inf true) n e = refl
abs-le (inf false) n e = refl
abs-le (fin false m d) n e = rw (signs (n * up e * down d) (m * up d * down e))
abs-le (fin true m d) n e = rw (signs (m * up d * down e) (n * up e * down d), eqb_comm (n * up e * down d) (m * up d * down e), and-true) (sym (and-true _))

-- -a < b decides -a < b or b < a
above : (a b : ℕ) → ltb 0 (a + b) ≡ ltb 0 (a + b) || ltb b a
above a b =
    elim (either (ltb 0 (a + b))) [
      | inl h ↦ rw h
      | inr h ↦
          let z = ltb-false 0 (a + b) h in
          rw (h, le-ltb b a (omega arith))
    ]

above_too : (a b : ℕ) → ltb 0 (a + b) ≡ ltb b a || ltb 0 (b + a)
above_too a b =
    elim (either (ltb 0 (a + b))) [
      | inl h ↦ rw (add_comm b a, h) (sym (or-true (ltb b a)))
      | inr h ↦
          let z = ltb-false 0 (a + b) h in
          rw (add_comm b a, h, le-ltb b a (omega arith))
    ]

-- t < |v|
pub lt-abs : (t v : Float) → lt t (abs v) ≡ lt t v || lt v (neg t)
unfolding abs lt neg
lt-abs nan nan = refl
lt-abs nan (inf s) = refl
lt-abs nan (fin s m d) = refl
lt-abs (inf s) nan = refl
lt-abs (inf true) (inf true) = refl
lt-abs (inf true) (inf false) = refl
lt-abs (inf false) (inf true) = refl
lt-abs (inf false) (inf false) = refl
lt-abs (inf true) (fin s m d) = refl
lt-abs (inf false) (fin s m d) = refl
lt-abs (fin s n e) nan = refl
lt-abs (fin true n e) (inf true) = refl
lt-abs (fin true n e) (inf false) = refl
lt-abs (fin false n e) (inf true) = refl
lt-abs (fin false n e) (inf false) = refl
lt-abs (fin false n e) (fin false m d) = sym (or-false _)
lt-abs (fin false n e) (fin true m d) = refl
lt-abs (fin true n e) (fin false m d) = above (n * up e * down d) (m * up d * down e)
lt-abs (fin true n e) (fin true m d) = above_too (n * up e * down d) (m * up d * down e)
