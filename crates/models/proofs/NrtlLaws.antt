-- NRTL: rows lent as parts, sums worked out once, and equal entries give equal values.
use mathlib.Core.Path.{◌≡◌, refl, ap, ◌∙◌}
use mathlib.Core.List.{List}
use mathlib.Core.Logic.{inl, inr}
use Prim.Native.Nat.{ℕ, ◌+◌, ◌*◌, ◌<◌, ◌≤◌}
use native.Mathlib.Omega.{arith}
use lib.Dec.{eqb}
use lib.ListN.{length}
use borrow.Author.Tests.{eq-eqb, ne_eqb, eqb-false}
use lib.Ieee.{Float, neg}
use Rattle.arithmetic.specs.Exponential.{exp_of}
use Rattle.arithmetic.specs.Floats.{◌⊕◌, ◌⊖◌, ◌⊗◌, ◌⊘◌, +0, one}
use Rattle.arithmetic.specs.Sums.{sum}
use Rattle.arithmetic.specs.Parameters.{td_at}
use Rattle.arithmetic.specs.Tables.{at, grid, from, Filled, up_to}
use Rattle.arithmetic.proofs.Tests.{either}
use Rattle.arithmetic.proofs.SumLaws.{sum_same}
use Rattle.arithmetic.proofs.TableLaws.{filled_as, from_at, cell-lt}
use Rattle.models.specs.declared.answers.Quantity.{Quantity}
use Rattle.models.specs.Faults.{index_fault}
use Rattle.models.specs.Columns.{unit_at, unit_diagonal, column_sum}
use Rattle.models.specs.Exponentials.{nonrandomness}
use Rattle.models.specs.Nrtl.{tau_at, tau, numerator, ln_gamma, excess, nrtl, nrtl_at}
use Rattle.models.specs.Values.{five_at, td_grid, taus, alphas}
use Rattle.models.proofs.AnswerLaws.{quantity-same}
use Rattle.models.proofs.ColumnLaws.{unit-same, column-same, unit_on, unit-off, upto_either}
use Rattle.models.specs.Steps.Terms.{with_own}
use Rattle.models.proofs.TermLaws.{own_sum}

-- ---- the diagonal, where G is 1 and τ is 0, put right after a whole row

tau_on : (i : ℕ) (row : ℕ → Float) → tau_at i row i ≡ +0
unfolding tau_at
tau_on i row = rw (eq-eqb i i refl)

tau-off : (i k : ℕ) (row : ℕ → Float) → (i ≡ k → ⊥) → tau_at i row k ≡ row k
unfolding tau_at
tau-off i k row h = rw (ne_eqb i k h)

-- terms of a row whose G is 1 and whose τ is 0 at i
pub terms_own : (n i : ℕ) (x : Float) (g t : ℕ → Float) (s : List Float) {own : Float} {p : ℕ} {s' : List Float} → own ≡ x ⊗ one ⊗ +0 →
    Filled (up_to n (λ j. at s j ⊕ with_own i own (λ j. x ⊗ g j ⊗ t j) j) (at s)) p s' → Filled (up_to n (λ j. at s j ⊕ x ⊗ unit_at i g j ⊗ tau_at i t j) (at s)) p s'
unfolding with_own unit_at tau_at
terms_own n i x g t s o all =
    filled_as (λ k b. upto_either n k (at s) _ _ (ap (λ (z : Float). at s k ⊕ z) (elim (either (eqb i k)) [ inl e ↦ rw (e, o) | inr e ↦ rw e ]))) all

-- the row lent as a part gives the table's entry
pub tau-row : (n : ℕ) (l : List Float) (i j : ℕ) → i * n + n ≤ length l → j < n → tau_at i (at (from (i * n) l)) j ≡ tau (grid n l) i j
unfolding tau_at tau
tau-row n l i j h b = rw (from_at l (i * n) j (omega arith))

-- G_ij reads α_ij and τ_ij alone
pub nonrandomness-same : (α β τ σ : ℕ → ℕ → Float) (i j : ℕ) → α i j ≡ β i j → τ i j ≡ σ i j → nonrandomness α τ i j ≡ nonrandomness β σ i j
unfolding nonrandomness
nonrandomness-same α β τ σ i j p q = rw (p, q)

pub nonrandomness-row : (n : ℕ) (a l : List Float) (i j : ℕ) → i * n + n ≤ length a → i * n + n ≤ length l → j < n →
    nonrandomness (λ _. at (from (i * n) a)) (λ _. at (from (i * n) l)) i j ≡ nonrandomness (grid n a) (grid n l) i j
nonrandomness-row n a l i j h k b = nonrandomness-same _ _ _ _ i j (from_at a (i * n) j (omega arith)) (from_at l (i * n) j (omega arith))

plus_same : {a b c d : Float} → a ≡ b → c ≡ d → a ⊕ c ≡ b ⊕ d
plus_same p q = rw (p, q)

-- ---- the sums worked out once

module _ (n : ℕ) (τ G : ℕ → ℕ → Float) (x : ℕ → Float) {u d : List Float} (us : Filled (numerator n τ G x) n u) (ds : Filled (column_sum n (unit_diagonal G) x) n d) where
  ln_hoisted : (i : ℕ) → i < n → at u i ⊘ at d i ⊕ sum n (λ j. x j ⊗ unit_diagonal G i j ⊘ at d j ⊗ (tau τ i j ⊖ at u j ⊘ at d j)) ≡ ln_gamma n τ G x i
  unfolding ln_gamma
  ln_hoisted i b = plus_same (rw (us.each i b, ds.each i b)) (sum_same n _ _ (λ j c. rw (us.each j c, ds.each j c)))

  pub excess_hoisted : sum n (λ i. x i ⊗ at u i ⊘ at d i) ≡ excess n τ G x
  unfolding excess
  excess_hoisted = sum_same n _ _ (λ i b. rw (us.each i b, ds.each i b))

  -- ln γ_i, from terms over rows g and t whose place i is put right
  pub ln_own : (i : ℕ) → i < n → (g t : ℕ → Float) {own r : Float} → ((j : ℕ) → j < n → g j ≡ G i j) → ((j : ℕ) → j < n → t j ≡ τ i j) →
      own ≡ x i ⊗ one ⊘ at d i ⊗ (+0 ⊖ at u i ⊘ at d i) → r ≡ sum n (with_own i own (λ j. x j ⊗ g j ⊘ at d j ⊗ (t j ⊖ at u j ⊘ at d j))) → at u i ⊘ at d i ⊕ r ≡ ln_gamma n τ G x i
  unfolding unit_diagonal tau
  ln_own i b g t {r = r} gs ts o e =
      let s : r ≡ sum n (λ j. x j ⊗ unit_at i (G i) j ⊘ at d j ⊗ (tau_at i (τ i) j ⊖ at u j ⊘ at d j)) =
      e ∙ own_sum n i _ _ _ (o ∙ rw (unit_on i (G i), tau_on i (τ i))) (λ k c ne. rw (unit-off i k (G i) ne, tau-off i k (τ i) ne, gs k c, ts k c)) in
      plus_same refl s ∙ ln_hoisted i b

-- ---- equal entries, equal values

module _ (n : ℕ) (τ σ G H : ℕ → ℕ → Float) (x y : ℕ → Float)
    (τs : (i j : ℕ) → i < n → j < n → (i ≡ j → ⊥) → τ i j ≡ σ i j)
    (Gs : (i j : ℕ) → i < n → j < n → (i ≡ j → ⊥) → G i j ≡ H i j)
    (xs : (i : ℕ) → i < n → x i ≡ y i) where
  tau-same : (i j : ℕ) → i < n → j < n → tau τ i j ≡ tau σ i j
  unfolding tau tau_at
  tau-same i j b c = elim (either (eqb i j)) [ inl h ↦ rw h | inr h ↦ rw (τs i j b c (eqb-false i j h)) ]

  numerator-same : (j : ℕ) → j < n → numerator n τ G x j ≡ numerator n σ H y j
  unfolding numerator
  numerator-same j c = sum_same n _ _ (λ m b. rw (xs m b, unit-same n G H Gs m j b c, tau-same m j b c))

  denominator-same : (j : ℕ) → j < n → column_sum n (unit_diagonal G) x j ≡ column_sum n (unit_diagonal H) y j
  denominator-same j c = column-same n _ _ x y j (λ k b. unit-same n G H Gs k j b c) xs

  ln_same : (i : ℕ) → i < n → ln_gamma n τ G x i ≡ ln_gamma n σ H y i
  unfolding ln_gamma
  ln_same i b =
      plus_same (rw (numerator-same i b, denominator-same i b))
      (sum_same n _ _ (λ j c. rw (xs j c, unit-same n G H Gs i j b c, tau-same i j b c, numerator-same j c, denominator-same j c)))

  excess-same : excess n τ G x ≡ excess n σ H y
  unfolding excess
  excess-same = sum_same n _ _ (λ i b. rw (xs i b, numerator-same i b, denominator-same i b))

  pub nrtl-same : (q : Quantity) → index_fault n q ≡ 0 → nrtl n τ G x q ≡ nrtl n σ H y q
  unfolding nrtl
  nrtl-same q z = quantity-same n q _ _ _ _ z ln_same excess-same

-- what `value_at` puts together: τ at T in the table tl, and G in gl
pub nrtl-from : (n : ℕ) (l tl gl : List Float) (T : Float) (x : ℕ → Float) (q : Quantity) {v : Float} → n * n * 5 + n * n ≤ length l → index_fault n q ≡ 0 →
    Filled (λ k. td_at (five_at l (k * 5)) T) (n * n) tl → Filled (λ k. exp_of (neg (at (from (n * n * 5) l) k) ⊗ at tl k)) (n * n) gl →
    v ≡ nrtl n (grid n tl) (grid n gl) x q → v ≡ nrtl_at n (taus n l) (alphas n l) T x q
unfolding nrtl_at taus alphas td_grid nonrandomness
nrtl-from n l tl gl T x q h z ts gs p =
    p ∙ nrtl-same n _ _ _ _ x x (λ i j b c ne. entry i j b c)
    (λ i j b c ne. gs.each (i * n + j) (cell-lt n n i j b c) ∙ rw (from_at l (n * n * 5) (i * n + j) (omega (arith, cell-lt n n i j b c)), entry i j b c)) (λ i b. refl) q z
  where
    entry : (i j : ℕ) → i < n → j < n → grid n tl i j ≡ td_at (five_at l ((i * n + j) * 5)) T
    entry i j b c = ts.each (i * n + j) (cell-lt n n i j b c)
