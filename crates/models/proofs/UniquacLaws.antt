-- UNIQUAC's values go by r, q and x below n and by E off the diagonal alone; what is worked out once is as in the
-- definition.
use mathlib.Core.Path.{◌≡◌, refl, ap, ◌∙◌}
use mathlib.Core.List.{List}
use Prim.Native.Nat.{ℕ, ◌+◌, ◌*◌, ◌<◌, ◌≤◌}
use native.Mathlib.Omega.{arith}
use lib.ListN.{length}
use lib.Ieee.{Float}
use Rattle.arithmetic.specs.Floats.{◌⊕◌, ◌⊖◌, ◌⊗◌, ◌⊘◌, one}
use Rattle.arithmetic.specs.Logarithm.{log_of}
use Rattle.arithmetic.specs.Sums.{sum}
use Rattle.arithmetic.specs.Tables.{at, grid, from, flat, Filled}
use Rattle.arithmetic.proofs.SumLaws.{sum_same}
use Rattle.arithmetic.proofs.TableLaws.{filled_as, filled-cell, from_at}
use Rattle.models.specs.declared.answers.Quantity.{Quantity}
use Rattle.models.specs.Faults.{index_fault}
use Rattle.models.specs.Columns.{unit_at, unit_diagonal, column_sum}
use Rattle.models.specs.Exponentials.{energy}
use Rattle.models.specs.Steps.Uniquac.{UniquacShared, combinatorial_by, residual_by}
use Rattle.models.specs.Uniquac.{tau, share, l, segment_ratio, area_ratio, combinatorial, residual, ln_gamma, excess, uniquac, uniquac_at}
use Rattle.models.specs.Values.{energies, rs, qs}
use Rattle.models.proofs.AnswerLaws.{quantity-same}
use Rattle.models.proofs.ColumnLaws.{unit-same, column-same, unit_on, unit-off}
use Rattle.models.specs.Steps.Terms.{with_own}
use Rattle.models.proofs.TermLaws.{own_sum}

-- ---- equal entries, equal answers

share-same : (n : ℕ) (s t x y : ℕ → Float) → ((i : ℕ) → i < n → s i ≡ t i) → ((i : ℕ) → i < n → x i ≡ y i) → (i : ℕ) → i < n → share n s x i ≡ share n t y i
unfolding share
share-same n s t x y es ex i b = rw (es i b, ex i b, sum_same n (λ j. x j ⊗ s j) (λ j. y j ⊗ t j) (λ j c. rw (es j c, ex j c)))

module _ (n : ℕ) (r s q p : ℕ → Float) (x y : ℕ → Float) (er : (i : ℕ) → i < n → r i ≡ s i) (eq : (i : ℕ) → i < n → q i ≡ p i) (ex : (i : ℕ) → i < n → x i ≡ y i) where
  l-same : (i : ℕ) → i < n → l r q i ≡ l s p i
  unfolding l
  l-same i b = rw (er i b, eq i b)

  pub combinatorial-same : (i : ℕ) → i < n → combinatorial n r q x i ≡ combinatorial n s p y i
  unfolding combinatorial segment_ratio area_ratio
  combinatorial-same i b =
      rw (
        share-same n r s x y er ex i b,
        share-same n q p x y eq ex i b,
        l-same i b,
        sum_same n (λ j. x j ⊗ l r q j) (λ j. y j ⊗ l s p j) (λ j c. rw (ex j c, l-same j c)),
        ex i b,
        eq i b,
      )

  module _ (E F : ℕ → ℕ → Float) (ee : (i j : ℕ) → i < n → j < n → (i ≡ j → ⊥) → E i j ≡ F i j) where
    columns : (j : ℕ) → j < n → column_sum n (tau E) (share n q x) j ≡ column_sum n (tau F) (share n p y) j
    columns j b = column-same n _ _ _ _ j (λ k c. unit-same n E F ee k j c b) (share-same n q p x y eq ex)

    pub residual-same : (i : ℕ) → i < n → residual n q E (share n q x) i ≡ residual n p F (share n p y) i
    unfolding residual
    residual-same i b =
        rw (
          eq i b,
          columns i b,
          sum_same n (λ j. share n q x j ⊗ tau E i j ⊘ column_sum n (tau E) (share n q x) j) (λ j. share n p y j ⊗ tau F i j ⊘ column_sum n (tau F) (share n p y) j)
              (λ j c. rw (share-same n q p x y eq ex j c, unit-same n E F ee i j b c, columns j c)),
        )

    pub ln_gamma-same : (i : ℕ) → i < n → ln_gamma n r q E x i ≡ ln_gamma n s p F y i
    unfolding ln_gamma
    ln_gamma-same i b = rw (combinatorial-same i b, residual-same i b)

    pub excess-same : excess n r q E x ≡ excess n s p F y
    unfolding excess
    excess-same = sum_same n _ _ (λ i b. rw (ex i b, ln_gamma-same i b))

    pub uniquac-same : (k : Quantity) → index_fault n k ≡ 0 → uniquac n r q E x k ≡ uniquac n s p F y k
    unfolding uniquac
    uniquac-same k z = quantity-same n k _ _ _ _ z ln_gamma-same excess-same

-- ---- what code works out

-- the sum of the residual part, from terms whose diagonal is put right
pub residual_own : (n i : ℕ) (q l : Float) (E : ℕ → ℕ → Float) (θ S : ℕ → Float) (row : ℕ → Float) {own r : Float} → ((j : ℕ) → j < n → row j ≡ E i j) → own ≡ θ i ⊗ one ⊘ S i →
    r ≡ sum n (with_own i own (λ j. θ j ⊗ row j ⊘ S j)) → q ⊗ (one ⊖ l ⊖ r) ≡ residual_by n q E θ S l i
unfolding residual_by unit_diagonal
residual_own n i q l E θ S row {r = r} part o e =
    let s : r ≡ sum n (λ j. θ j ⊗ unit_at i (E i) j ⊘ S j) =
    e ∙ own_sum n i _ _ _ (o ∙ rw (unit_on i (E i))) (λ k b ne. rw (unit-off i k (E i) ne, part k b)) in
    rw s

-- what all components share, from what the callees work out: the column sums are those over the shares that stand in a list
pub shared : (n : ℕ) (r q : ℕ → Float) (E : ℕ → ℕ → Float) (x : ℕ → Float) {rx lx : Float} {theta sums : List Float} → rx ≡ sum n (λ j. x j ⊗ r j) → lx ≡ sum n (λ j. x j ⊗ l r q j) →
    Filled (share n q x) n theta → Filled (column_sum n (tau E) (at theta)) n sums → n ≤ length theta → n ≤ length sums → UniquacShared n r q E x rx lx theta sums
shared n r q E x {rx} {lx} {theta} {sums} s t all columns h g = record {
  r_sum = s;
  l_sum = t;
  shares = all;
  columns = filled_as (λ j b. column-same n (tau E) (tau E) (at theta) (share n q x) j (λ k c. refl) all.each) columns;
  thetas = h;
  summed = g;
}

-- ln γ_i and its two parts, from what all components share
module _ (n : ℕ) (r q : ℕ → Float) (E : ℕ → ℕ → Float) (x : ℕ → Float) (rx lx : Float) (theta sums : List Float) (S : UniquacShared n r q E x rx lx theta sums) (i : ℕ) (b : i < n) where
  combinatorial_shared : {segment ln_segment ln_area c : Float} → segment ≡ x i ⊗ r i ⊘ rx ⊘ x i → ln_segment ≡ log_of segment → ln_area ≡ log_of (at theta i ⊘ (x i ⊗ r i ⊘ rx)) →
      c ≡ combinatorial_by (r i) (q i) segment ln_segment ln_area lx → c ≡ combinatorial n r q x i
  unfolding combinatorial_by combinatorial segment_ratio area_ratio share l
  combinatorial_shared s ls la k = rw (k, ls, la, s, S.shares.each i b, S.r_sum, S.l_sum)

  residual_shared : {ln_sum v : Float} → ln_sum ≡ log_of (at sums i) → v ≡ residual_by n (q i) E (at theta) (at sums) ln_sum i → v ≡ residual n q E (share n q x) i
  unfolding residual residual_by
  residual_shared lu k =
      rw (
        k,
        lu,
        S.columns.each i b,
        sum_same n (λ j. at theta j ⊗ tau E i j ⊘ at sums j) (λ j. share n q x j ⊗ tau E i j ⊘ column_sum n (tau E) (share n q x) j)
            (λ j c. rw (S.shares.each j c, S.columns.each j c)),
      )

  pub ln_gamma_shared : {segment ln_segment ln_area ln_sum c v : Float} → segment ≡ x i ⊗ r i ⊘ rx ⊘ x i → ln_segment ≡ log_of segment → ln_area ≡ log_of (at theta i ⊘ (x i ⊗ r i ⊘ rx)) →
      c ≡ combinatorial_by (r i) (q i) segment ln_segment ln_area lx → ln_sum ≡ log_of (at sums i) → v ≡ residual_by n (q i) E (at theta) (at sums) ln_sum i → c ⊕ v ≡ ln_gamma n r q E x i
  unfolding ln_gamma
  ln_gamma_shared s ls la k lu w = rw (combinatorial_shared s ls la k, residual_shared lu w)

  -- the same from logs that stand in lists
  pub ln_gamma_listed : (phi segments ln_segments areas ln_areas ln_sums : List Float) → at phi i ≡ x i ⊗ r i ⊘ rx → at segments i ≡ at phi i ⊘ x i → at ln_segments i ≡ log_of (at segments i) →
      at areas i ≡ at theta i ⊘ at phi i → at ln_areas i ≡ log_of (at areas i) → at ln_sums i ≡ log_of (at sums i) →
      combinatorial_by (r i) (q i) (at segments i) (at ln_segments i) (at ln_areas i) lx ⊕ residual_by n (q i) E (at theta) (at sums) (at ln_sums i) i ≡ ln_gamma n r q E x i
  ln_gamma_listed phi segments ln_segments areas ln_areas ln_sums p s ls a la lu =
      ln_gamma_shared (s ∙ ap (λ (z : Float). z ⊘ x i) p) ls (la ∙ ap log_of (a ∙ ap (λ (z : Float). at theta i ⊘ z) p)) refl lu refl

-- ---- what `value_at` puts together: the exponentials in el, the r's in the part from n·n on, the q's n places further

pub uniquac-from : (n : ℕ) (l el : List Float) (T : Float) (x : ℕ → Float) (k : Quantity) {v : Float} → n * n + n + n ≤ length l → index_fault n k ≡ 0 →
    Filled (flat n (energy (energies n l) T)) (n * n) el → v ≡ uniquac n (at (from (n * n) l)) (at (from (n * n + n) l)) (grid n el) x k → v ≡ uniquac_at n (rs n l) (qs n l) (energies n l) T x k
unfolding uniquac_at rs qs
uniquac-from n l el T x k h z all p =
    p ∙ uniquac-same n _ _ _ _ x x (λ i b. from_at l (n * n) i (omega arith)) (λ i b. from_at l (n * n + n) i (omega arith)) (λ i b. refl)
    _ _ (λ i j b d ne. filled-cell n n _ all i j b d) k z
