-- Wilson's values go by V and x below n and by E off the diagonal alone; sums that are worked out once are those of the
-- definition.
use mathlib.Core.Path.{◌≡◌, refl, sym, ◌∙◌}
use mathlib.Core.List.{List}
use Prim.Native.Nat.{ℕ, ◌+◌, ◌*◌, ◌<◌, ◌≤◌}
use native.Mathlib.Omega.{arith}
use lib.ListN.{length}
use borrow.Author.Tests.{eq-eqb, ne_eqb}
use lib.Ieee.{Float, binary64, of_bits}
use Rattle.arithmetic.specs.Floats.{◌⊖◌, ◌⊗◌, ◌⊘◌, +0, one}
use Rattle.arithmetic.specs.Logarithm.{log_of}
use Rattle.arithmetic.specs.Sums.{fold, sum}
use Rattle.arithmetic.specs.Tables.{at, grid, from, flat, Filled, up_to}
use Rattle.arithmetic.proofs.SumLaws.{fold_same, sum_same}
use Rattle.arithmetic.proofs.TableLaws.{from_at, filled-cell, upto_below}
use Rattle.models.specs.declared.answers.Quantity.{Quantity}
use Rattle.models.specs.Faults.{index_fault}
use Rattle.models.specs.Exponentials.{energy}
use Rattle.models.specs.Values.{energies, volumes}
use Rattle.models.specs.Wilson.{lambda, row_sum, ln_gamma, excess, wilson, wilson_at}
use Rattle.models.proofs.AnswerLaws.{quantity-same}
use Rattle.models.specs.Steps.Terms.{with_own}
use Rattle.models.proofs.TermLaws.{own_sum}
use Rattle.models.proofs.ExponentialLaws.{off_diagonal}

-- ---- equal entries, equal answers

module _ (n : ℕ) (v w : ℕ → Float) (E F : ℕ → ℕ → Float) (x y : ℕ → Float) (ev : (i : ℕ) → i < n → v i ≡ w i) (ex : (i : ℕ) → i < n → x i ≡ y i) where
  pub lambda-same : (i j : ℕ) → i < n → j < n → ((i ≡ j → ⊥) → E i j ≡ F i j) → lambda v E i j ≡ lambda w F i j
  unfolding lambda
  lambda-same i j b c e = off_diagonal i j one _ _ (λ ne. rw (ev j c, ev i b, e ne))

  pub row_sum-same : (i : ℕ) → i < n → ((j : ℕ) → j < n → (i ≡ j → ⊥) → E i j ≡ F i j) → row_sum n v E x i ≡ row_sum n w F y i
  unfolding row_sum
  row_sum-same i b e = sum_same n _ _ (λ j c. rw (ex j c, lambda-same i j b c (e j c)))

  module _ (ee : (i j : ℕ) → i < n → j < n → (i ≡ j → ⊥) → E i j ≡ F i j) where
    pub ln_gamma-same : (i : ℕ) → i < n → ln_gamma n v E x i ≡ ln_gamma n w F y i
    unfolding ln_gamma
    ln_gamma-same i b =
        rw (
          row_sum-same i b (λ j c. ee i j b c),
          sum_same n (λ k. x k ⊗ lambda v E k i ⊘ row_sum n v E x k) (λ k. y k ⊗ lambda w F k i ⊘ row_sum n w F y k)
              (λ k c. rw (ex k c, lambda-same k i c b (ee k i c b), row_sum-same k c (λ j d. ee k j c d))),
        )

    pub excess-same : excess n v E x ≡ excess n w F y
    unfolding excess
    excess-same = fold_same n +0 _ _ (λ i s b. rw (ex i b, row_sum-same i b (λ j c. ee i j b c)))

    pub wilson-same : (q : Quantity) → index_fault n q ≡ 0 → wilson n v E x q ≡ wilson n w F y q
    unfolding wilson
    wilson-same q z = quantity-same n q _ _ _ _ z ln_gamma-same excess-same

-- ---- what code works out

lambda_on : (v : ℕ → Float) (E : ℕ → ℕ → Float) (i : ℕ) → lambda v E i i ≡ one
unfolding lambda
lambda_on v E i = rw (eq-eqb i i refl)

lambda-off : (v : ℕ → Float) (E : ℕ → ℕ → Float) (i k : ℕ) → (i ≡ k → ⊥) → lambda v E i k ≡ v k ⊘ v i ⊗ E i k
unfolding lambda
lambda-off v E i k h = rw (ne_eqb i k h)

-- a row sum, from terms whose diagonal is put right
pub row_own : (n : ℕ) (v : ℕ → Float) (E : ℕ → ℕ → Float) (x : ℕ → Float) (i : ℕ) {own r : Float} → own ≡ x i ⊗ one →
    r ≡ sum n (with_own i own (λ j. x j ⊗ (v j ⊘ v i ⊗ E i j))) → r ≡ row_sum n v E x i
unfolding row_sum
row_own n v E x i o e =
    e ∙ own_sum n i _ _ _ (o ∙ rw (lambda_on v E i)) (λ k b ne. rw (lambda-off v E i k ne))

-- over row sums that stand in a list
module _ (n : ℕ) (v : ℕ → Float) (E : ℕ → ℕ → Float) (x : ℕ → Float) (sums : List Float) (all : Filled (row_sum n v E x) n sums) (i : ℕ) (b : i < n) where
  -- ln γ_i, its terms as those of a row sum
  pub ln_own : {own l r : Float} → own ≡ x i ⊗ one ⊘ at sums i → l ≡ log_of (at sums i) →
      r ≡ sum n (with_own i own (λ k. x k ⊗ (v i ⊘ v k ⊗ E k i) ⊘ at sums k)) → one ⊖ l ⊖ r ≡ ln_gamma n v E x i
  unfolding ln_gamma
  ln_own {r = r} o log t =
      let S : r ≡ sum n (λ k. x k ⊗ lambda v E k i ⊘ row_sum n v E x k) =
      t ∙ own_sum n i _ _ _ (o ∙ rw (lambda_on v E i, all.each i b)) (λ k c ne. rw (lambda-off v E k i (λ q. ne (sym q)), all.each k c)) in
      rw (log, all.each i b, S)

-- the excess energy, from the logs of row sums that stand in a list
pub excess_of_logs : (n : ℕ) (v : ℕ → Float) (E : ℕ → ℕ → Float) (x old : ℕ → Float) (sums logs : List Float) {p : ℕ} {r : Float} → n ≤ p →
    Filled (row_sum n v E x) n sums → Filled (up_to n (λ k. log_of (at sums k)) old) p logs → r ≡ fold n (of_bits binary64 0) (λ i s. s ⊖ x i ⊗ at logs i) → r ≡ excess n v E x
unfolding excess of_bits
excess_of_logs n v E x old sums logs h rows all e =
    e ∙ fold_same n +0 _ _ (λ i s b. rw (all.each i (omega arith), upto_below n (λ k. log_of (at sums k)) old i b, rows.each i b))

-- ---- what `value_at` puts together: the exponentials in el, the volumes in the part from n·n on

pub wilson-from : (n : ℕ) (l el : List Float) (T : Float) (x : ℕ → Float) (q : Quantity) {v : Float} → n * n + n ≤ length l → index_fault n q ≡ 0 →
    Filled (flat n (energy (energies n l) T)) (n * n) el → v ≡ wilson n (at (from (n * n) l)) (grid n el) x q → v ≡ wilson_at n (volumes n l) (energies n l) T x q
unfolding wilson_at volumes
wilson-from n l el T x q h z all p =
    p ∙ wilson-same n _ _ _ _ x x (λ i b. from_at l (n * n) i (omega arith)) (λ i b. refl) (λ i j b d ne. filled-cell n n _ all i j b d) q z
