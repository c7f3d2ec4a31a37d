-- UNIFAC: what an exponential reads, rows lent as parts, sums worked out once, and equal inputs give equal values.
use mathlib.Core.Path.{◌≡◌, refl, ap, ◌∙◌}
use mathlib.Core.Bool.{true, cond}
use mathlib.Core.List.{List, ◌++◌}
use Prim.Native.Nat.{ℕ, ◌+◌, ◌*◌, ◌-◌, ◌/◌, ◌%◌, ◌<◌, ◌≤◌}
use native.Mathlib.Nat.{div-add-mod'}
use native.Mathlib.Omega.{arith}
use lib.Dec.{eqb}
use lib.ListN.{length, get_or, take}
use lib.Seq.{get_or-take, get_or-drop}
use lib.Ieee.{Float, neg}
use Rattle.arithmetic.specs.Floats.{◌⊕◌, ◌⊖◌, ◌⊗◌, ◌⊘◌, +0, one}
use Rattle.arithmetic.specs.Exponential.{exp_of}
use Rattle.arithmetic.specs.Logarithm.{log_of}
use Rattle.arithmetic.specs.Parameters.{td_at}
use Rattle.arithmetic.specs.Sums.{fold, sum, total}
use Rattle.arithmetic.specs.Tables.{at, grid, from, part, flat, Filled}
use Rattle.arithmetic.proofs.SumLaws.{fold_same, sum_same}
use Rattle.arithmetic.proofs.TableLaws.{row-end, cell-lt, filled_as, filled-cell, from_at, part_at, by_place, back-before, back-within}
use Rattle.models.specs.declared.answers.Quantity.{Quantity}
use Rattle.models.specs.declared.answers.Quantity.TheVariants.{LnGamma, Gamma, ExcessGibbs}
use Rattle.models.specs.declared.groups.Each.{Each}
use Rattle.models.specs.declared.groups.GroupList.{GroupList}
use Rattle.models.specs.declared.groups.GroupLists.{GroupLists}
use Rattle.models.specs.declared.unifac.terms.Mixture.{Mixture}
use Rattle.models.specs.declared.unifac.terms.Shared.{Shared}
use Rattle.models.specs.Answers.{quantity, reads}
use Rattle.models.specs.Faults.{index_fault}
use Rattle.models.specs.Columns.{column_sum}
use Rattle.models.specs.Exponentials.{group_energy}
use Rattle.models.specs.Steps.GroupLists.{Listed, SameList, Loaded, Named, ListedRows, own, gathered, added}
use Rattle.models.specs.Unifac as Unifac
use Rattle.models.specs.Unifac.{Groups, size, size_sum, combinatorial, counts, amount, amounts, fraction, pure_count, pure_fraction, theta, ln_group, mixed, pure, residual, ln_gamma, excess, unifac, unifac_by, unifac_at}
use Rattle.models.specs.Steps.Unifac.{IsList, HasData, lists_of, r_of, q_of, psi_of, x_of, psi_by, Shares, combinatorial_from, ln_from}
use Rattle.models.specs.Values.{five_at, start, counts_at, group_rs, group_qs, group_as, lists}
use Rattle.models.proofs.AnswerLaws.{quantity_ln, quantity_gamma, quantity-excess, quantity-same, quantity_read}
use Rattle.models.proofs.ParameterLaws.{five-from}
use Rattle.models.proofs.GroupListLaws.{start-more, list_length, list_paired, list_place}

-- ---- an exponential

-- Ψ_mk reads a_mk and T alone
pub psi_same : (a b : ℕ → ℕ → Float) (T U : Float) (m k : ℕ) → a m k ≡ b m k → T ≡ U → group_energy a T m k ≡ group_energy b U m k
unfolding group_energy
psi_same a b T U m k p q = rw (p, q)

-- with L = log(T) an entry of a row is exp(-a/T), a at T
pub psi_at : (row : List Float) (T : Float) {L : Float} (m k : ℕ) → L ≡ log_of T → psi_by row T L k ≡ group_energy (λ m k. td_at (five_at row (k * 5)) T) T m k
unfolding psi_by group_energy td_at
psi_at row T m k ln = rw ln

-- ---- the table: a at T, then the arguments, then exp of each place

pub table_filled : (ng : ℕ) (values : List Float) (T : Float) {g g' : List Float} → counts_at ng ≤ length values →
    Filled (λ k. td_at (five_at (from (ng + ng) values) (k * 5)) T) (ng * ng) g → Filled (λ k. exp_of (neg (at g k) ⊘ T)) (ng * ng) g' →
    Filled (flat ng (group_energy (λ m k. td_at (group_as ng values m k) T) T)) (ng * ng) g'
unfolding flat group_energy group_as counts_at
table_filled ng values T h a all = filled_as (λ k b. ap (λ (v : Float). exp_of (neg v ⊘ T)) (a.each k b) ∙ entry k b) all
  where
    entry : (k : ℕ) → k < ng * ng → exp_of (neg (td_at (five_at (from (ng + ng) values) (k * 5)) T) ⊘ T) ≡ exp_of (neg (td_at (five_at values (ng + ng + (k / ng * ng + k % ng) * 5)) T) ⊘ T)
    entry k b = rw (five-from values (ng + ng) (k * 5) (omega arith), div-add-mod' k ng)

-- ---- ln Γ

-- the row k is lent as a part
pub row-lent : (ng : ℕ) (Θ D : ℕ → Float) (psi : List Float) (k : ℕ) → k < ng → ng * ng ≤ length psi →
    sum ng (λ m. Θ m ⊗ at (from (k * ng) psi) m ⊘ D m) ≡ sum ng (λ m. Θ m ⊗ grid ng psi k m ⊘ D m)
row-lent ng Θ D psi k b h = sum_same ng _ _ (λ m c. rw (from_at psi (k * ng) m (omega (arith, row-end ng ng k b))))

-- the column sums D, worked out once, serve every group
pub group_hoisted : (ng : ℕ) (Q Θ : ℕ → Float) (Ψ : ℕ → ℕ → Float) (k : ℕ) {D : List Float} {l v : Float} → k < ng → Filled (column_sum ng Ψ Θ) ng D →
    l ≡ log_of (at D k) → v ≡ Q k ⊗ (one ⊖ l ⊖ sum ng (λ m. Θ m ⊗ Ψ k m ⊘ at D m)) → v ≡ ln_group ng Q Ψ Θ k
unfolding ln_group
group_hoisted ng Q Θ Ψ k {D} b all p q =
    let S : sum ng (λ m. Θ m ⊗ Ψ k m ⊘ at D m) ≡ sum ng (λ m. Θ m ⊗ Ψ k m ⊘ column_sum ng Ψ Θ m) = sum_same ng _ _ (λ m c. rw (all.each m c)) in
    q ∙ rw (p, all.each k b, S)

theta-same : (ng : ℕ) (Q U X Y : ℕ → Float) (k : ℕ) → k < ng → ((m : ℕ) → m < ng → Q m ≡ U m) → ((m : ℕ) → m < ng → X m ≡ Y m) → theta ng Q X k ≡ theta ng U Y k
unfolding theta
theta-same ng Q U X Y k b q e =
    let S : sum ng (λ m. Q m ⊗ X m) ≡ sum ng (λ m. U m ⊗ Y m) = sum_same ng _ _ (λ m c. rw (q m c, e m c)) in
    rw (q k b, e k b, S)

group-same : (ng : ℕ) (Q U : ℕ → Float) (Ψ Φ : ℕ → ℕ → Float) (Θ Ω : ℕ → Float) (k : ℕ) → k < ng →
    ((m : ℕ) → m < ng → Q m ≡ U m) → ((m n : ℕ) → m < ng → n < ng → Ψ m n ≡ Φ m n) → ((m : ℕ) → m < ng → Θ m ≡ Ω m) → ln_group ng Q Ψ Θ k ≡ ln_group ng U Φ Ω k
unfolding ln_group column_sum
group-same ng Q U Ψ Φ Θ Ω k b q p e =
    let D : (m : ℕ) → m < ng → sum ng (λ n. Θ n ⊗ Ψ n m) ≡ sum ng (λ n. Ω n ⊗ Φ n m) = λ m h. sum_same ng _ _ (λ n c. rw (e n c, p n m c h)) in
    let S : sum ng (λ m. Θ m ⊗ Ψ k m ⊘ sum ng (λ n. Θ n ⊗ Ψ n m)) ≡ sum ng (λ m. Ω m ⊗ Φ k m ⊘ sum ng (λ n. Ω n ⊗ Φ n m)) =
    sum_same ng _ _ (λ m c. rw (e m c, p k m b c, D m c)) in
    rw (q k b, D k b, S)

-- the group fractions in an array
pub theta-from : (ng : ℕ) (Q X : ℕ → Float) {xg th : List Float} → Filled X ng xg → Filled (theta ng Q (at xg)) ng th → Filled (theta ng Q X) ng th
theta-from ng Q X {xg} fractions = filled_as (λ k b. theta-same ng Q Q (at xg) X k b (λ m c. refl) fractions.each)

-- Θ in an array
group-from : (ng : ℕ) (Q : ℕ → Float) (Ψ : ℕ → ℕ → Float) (Θ : ℕ → Float) {th : List Float} → Filled Θ ng th → (k : ℕ) → k < ng → ln_group ng Q Ψ (at th) k ≡ ln_group ng Q Ψ Θ k
group-from ng Q Ψ Θ {th} all k b = group-same ng Q Q Ψ Ψ (at th) Θ k b (λ m c. refl) (λ m n c d. refl) all.each

-- the group fractions, then Θ, then ln Γ of the groups named, each in an array
pub groups-from : (ng : ℕ) (Q : ℕ → Float) (Ψ : ℕ → ℕ → Float) (X : ℕ → Float) (m : ℕ) (group : ℕ → ℕ) {xg th g : List Float} → ((p : ℕ) → p < m → group p < ng) →
    Filled X ng xg → Filled (theta ng Q (at xg)) ng th → Named m group (ln_group ng Q Ψ (at th)) g → Named m group (ln_group ng Q Ψ (theta ng Q X)) g
groups-from ng Q Ψ X m group below fractions thetas gammas = record {
  each = λ p h. gammas.each p h ∙ group-from ng Q Ψ (theta ng Q X) (theta-from ng Q X fractions thetas) (group p) (below p h);
}

-- ---- equal inputs, equal values

same_self : (ng : ℕ) (c : Groups) (i : ℕ) → ((p : ℕ) → p < c.length i → c.group i p < ng) → SameList ng c c i
same_self ng c i b = record { lengths = refl; groups = λ p h. refl; counts = λ p h. refl; below = b }

-- at one component
module _ {ng : ℕ} {c d : Groups} {i : ℕ} (l : SameList ng c d i) where
  size_same : (R S : ℕ → Float) → ((k : ℕ) → k < ng → R k ≡ S k) → size c R i ≡ size d S i
  unfolding size
  size_same R S e =
      sum_same (c.length i) _ _ (λ p h. rw (e (c.group i p) (l.below p h), l.groups p h, l.counts p h))
      ∙ ap (λ (m : ℕ). sum m (λ p. d.count i p ⊗ S (d.group i p))) l.lengths

  counts_same : counts c i ≡ counts d i
  unfolding counts
  counts_same = sum_same (c.length i) _ _ l.counts ∙ ap (λ (m : ℕ). sum m (d.count i)) l.lengths

  added-same : (x y : Float) (k : ℕ) (s : Float) → x ≡ y → fold (c.length i) s (λ p s. cond (eqb (c.group i p) k) (s ⊕ x ⊗ c.count i p) s) ≡ fold (d.length i) s (λ p s. cond (eqb (d.group i p) k) (s ⊕ y ⊗ d.count i p) s)
  added-same x y k s e =
      fold_same (c.length i) s _ _ (λ p a h. rw (l.groups p h, l.counts p h, e))
      ∙ ap (λ (m : ℕ). fold m s (λ p s. cond (eqb (d.group i p) k) (s ⊕ y ⊗ d.count i p) s)) l.lengths

  pure-fraction-same : (k : ℕ) → pure_fraction c i k ≡ pure_fraction d i k
  unfolding pure_fraction pure_count
  pure-fraction-same k =
      let C : fold (c.length i) +0 (λ p s. cond (eqb (c.group i p) k) (c.count i p) s) ≡ fold (d.length i) +0 (λ p s. cond (eqb (d.group i p) k) (d.count i p) s) =
      fold_same (c.length i) +0 _ _ (λ p a h. rw (l.groups p h, l.counts p h)) ∙ ap (λ (m : ℕ). fold m +0 (λ p s. cond (eqb (d.group i p) k) (d.count i p) s)) l.lengths in
      rw (C, counts_same)

  residual-same : (M N : ℕ → Float) (P O : ℕ → ℕ → Float) → ((k : ℕ) → k < ng → M k ≡ N k) → ((p : ℕ) → p < c.length i → P i (c.group i p) ≡ O i (c.group i p)) → residual c M P i ≡ residual d N O i
  unfolding residual
  residual-same M N P O m e =
      sum_same (c.length i) _ _ (λ p h. rw (m (c.group i p) (l.below p h), e p h, l.groups p h, l.counts p h))
      ∙ ap (λ (m : ℕ). sum m (λ q. d.count i q ⊗ (N (d.group i q) ⊖ O i (d.group i q)))) l.lengths

  -- ln Γ in pure i looks at the list of i, Q and Ψ alone
  pub pure-one-same : (Q U : ℕ → Float) → ((k : ℕ) → k < ng → Q k ≡ U k) → (Ψ Φ : ℕ → ℕ → Float) → ((m k : ℕ) → m < ng → k < ng → Ψ m k ≡ Φ m k) → (k : ℕ) → k < ng → pure ng c Q Ψ i k ≡ pure ng d U Φ i k
  unfolding pure
  pure-one-same Q U same-Q Ψ Φ same-Ψ k b = group-same ng Q U Ψ Φ _ _ k b same-Q same-Ψ (λ m h. theta-same ng Q U _ _ m h same-Q (λ g _. pure-fraction-same g))

module _ (n ng : ℕ) (c d : Groups) (lists : (i : ℕ) → i < n → SameList ng c d i)
    (Q U : ℕ → Float) (same-Q : (k : ℕ) → k < ng → Q k ≡ U k)
    (Ψ Φ : ℕ → ℕ → Float) (same-Ψ : (m k : ℕ) → m < ng → k < ng → Ψ m k ≡ Φ m k)
    (x y : ℕ → Float) (same-x : (i : ℕ) → i < n → x i ≡ y i) where
  size-sum-same : (R S : ℕ → Float) → ((k : ℕ) → k < ng → R k ≡ S k) → size_sum n c R x ≡ size_sum n d S y
  unfolding size_sum
  size-sum-same R S e = sum_same n _ _ (λ j h. rw (same-x j h, size_same (lists j h) R S e))

  amounts-same : amounts n c x ≡ amounts n d y
  unfolding amounts
  amounts-same = sum_same n _ _ (λ i h. rw (same-x i h, counts_same (lists i h)))

  fraction-same : (k : ℕ) → fraction n c x k ≡ fraction n d y k
  unfolding fraction amount
  fraction-same k =
      rw (
        amounts-same,
        fold_same n +0
            (λ i s. fold (c.length i) s (λ p s. cond (eqb (c.group i p) k) (s ⊕ x i ⊗ c.count i p) s))
            (λ i s. fold (d.length i) s (λ p s. cond (eqb (d.group i p) k) (s ⊕ y i ⊗ d.count i p) s))
            (λ i s h. added-same (lists i h) (x i) (y i) k s (same-x i h)),
      )

  pub mixed-same : (k : ℕ) → k < ng → mixed n ng c Q Ψ x k ≡ mixed n ng d U Φ y k
  unfolding mixed
  mixed-same k b = group-same ng Q U Ψ Φ _ _ k b same-Q same-Ψ (λ m h. theta-same ng Q U _ _ m h same-Q (λ g _. fraction-same g))

  module _ (R S : ℕ → Float) (same-R : (k : ℕ) → k < ng → R k ≡ S k) where
    module _ (P O : ℕ → ℕ → Float) where
      ln_same : (i : ℕ) → i < n → ((p : ℕ) → p < c.length i → P i (c.group i p) ≡ O i (c.group i p)) → ln_gamma n ng c R Q Ψ P x i ≡ ln_gamma n ng d S U Φ O y i
      unfolding ln_gamma combinatorial
      ln_same i h e =
          rw (
            size_same (lists i h) R S same-R,
            size_same (lists i h) Q U same-Q,
            size-sum-same R S same-R,
            size-sum-same Q U same-Q,
            residual-same (lists i h) (mixed n ng c Q Ψ x) (mixed n ng d U Φ y) P O mixed-same e,
          )

      -- the tables of pure ln Γ agree at the groups that the components which q goes by list
      pub unifac_by_same : (q : Quantity) → index_fault n q ≡ 0 → ((i : ℕ) → i < n → reads q i ≡ true → (p : ℕ) → p < c.length i → P i (c.group i p) ≡ O i (c.group i p)) →
          unifac_by n ng c R Q Ψ P x q ≡ unifac_by n ng d S U Φ O y q
      unfolding unifac_by excess
      unifac_by_same q z e = quantity_read n q _ _ _ _ z (λ i h r. ln_same i h (e i h r)) (λ all. sum_same n _ _ (λ i h. rw (same-x i h, all i h)))

    pub unifac-same : (q : Quantity) → index_fault n q ≡ 0 → unifac n ng c R Q Ψ x q ≡ unifac n ng d S U Φ y q
    unfolding unifac
    unifac-same q z = unifac_by_same (pure ng c Q Ψ) (pure ng d U Φ) q z (λ i h _ p b. pure-one-same (lists i h) Q U same-Q Ψ Φ same-Ψ (c.group i p) ((lists i h).below p b))

-- ---- a list of its own

-- the list of component i, which begins at s and ends at e, lent as parts
pub list_same : {n ng : ℕ} {lens groups : List ℕ} {counts : List Float} {i s e : ℕ} → Listed n ng lens groups counts → i < n → s ≡ start lens i → e ≡ s + get_or lens i 0 →
    SameList ng (own (part s e groups) (part s e counts)) (lists lens groups counts) i
unfolding lists
list_same {n} {ng} {lens} {groups} {counts} {i} {s} {e} all h here end =
    let long = list_length all h here end in
    record {
      lengths = long ∙ omega arith;
      groups = λ p b. let c : p < e - s = omega (arith, long) in rw (get_or-take, get_or-drop, here);
      counts = λ p b. let c : p < e - s = omega (arith, long) in part_at counts s e p c ∙ rw here;
      below = (list_paired all h here end).below;
    }

-- the list after it begins where it ends
pub next_start : {ng : ℕ} (lens groups : List ℕ) (counts : List Float) {c : Groups} {i s : ℕ} → s ≡ start lens i → SameList ng c (lists lens groups counts) i → s + c.length i ≡ start lens (i + 1)
unfolding lists
next_start lens groups counts here same = start-more lens _ here same.lengths

-- a step through the lists of all
pub turn : (all : GroupLists) (s t : Each) {i : ℕ} {l : GroupList} → s.lists ≡ all → (s.i < s.lists.n) × (i ≡ s.i) × IsList s.lists s.i l × (t.lists ≡ s.lists) × (t.i ≡ s.i + 1) →
    (s.i < all.n) × (i ≡ s.i) × IsList all s.i l × (t.lists ≡ all) × (t.i ≡ s.i + 1)
turn all s t e n = (rw (← e) n.0, n.1, rw (← e) n.2, n.3 ∙ e, n.4)

pub turns_end : (all : GroupLists) (s : Each) → s.lists ≡ all → s.lists.n ≤ s.i → all.n ≤ s.i
turns_end all s e h = rw (← e) h

-- a list of its own with the pairs of component i
module _ {ng : ℕ} (groups : List ℕ) (list_counts : List Float) {d : Groups} {i : ℕ} (l : SameList ng (own groups list_counts) d i) where
  pub size-own : (S : ℕ → Float) {v : Float} → v ≡ size (own groups list_counts) S 0 → v ≡ size d S i
  unfolding size
  size-own S e = e ∙ size_same l S S (λ k b. refl)

  pub counts-own : {v : Float} → length list_counts ≡ length groups → v ≡ total list_counts → v ≡ Unifac.counts d i
  unfolding total Unifac.counts
  counts-own long e = e ∙ ap (λ (m : ℕ). sum m (at list_counts)) long ∙ counts_same l

  pub added-own : (x : Float) (old : ℕ → Float) {m : ℕ} {num : List Float} → Filled (λ k. added (own groups list_counts) x 0 k (old k)) m num → Filled (λ k. added d x i k (old k)) m num
  unfolding gathered
  added-own x old = filled_as (λ k h. added-same l x x k (old k) refl)

  pub pure-own : (Q : ℕ → Float) (Ψ : ℕ → ℕ → Float) {g : List Float} → Named (length groups) (λ p. get_or groups p 0) (pure ng (own groups list_counts) Q Ψ 0) g → Named (d.length i) (d.group i) (pure ng d Q Ψ i) g
  unfolding pure pure_fraction pure_count Unifac.counts
  pure-own Q Ψ {g} named = record {
    each = λ p h.
        let b : p < length groups = rw (← l.lengths) at h in
        let e : at g (get_or groups p 0) ≡ pure ng d Q Ψ i (get_or groups p 0) = named.each p b ∙ pure-one-same l Q Q (λ k b. refl) Ψ Ψ (λ m k b c. refl) _ (l.below p b) in
        rw (l.groups p b) at e;
  }

  -- g has M of the groups listed, and row i of the table of pure ln Γ is lent as a part
  pub residual-own : (M : ℕ → Float) (table : List Float) {g : List Float} {v : Float} → Named (length groups) (λ p. get_or groups p 0) M g → i * ng + ng ≤ length table →
      v ≡ residual (own groups list_counts) (at g) (λ _. at (from (i * ng) table)) 0 → v ≡ residual d M (grid ng table) i
  unfolding residual
  residual-own M table named room e =
      e
      ∙ sum_same (length groups) _ _ (λ p h. let b : get_or groups p 0 < ng = l.below p h in rw (named.each p h, from_at table (i * ng) (get_or groups p 0) (omega arith)))
      ∙ residual-same l M M (grid ng table) (grid ng table) (λ k b. refl) (λ p h. refl)

-- an array that has F of all groups has it of those listed
pub named_filled : {F : ℕ → Float} {ng m : ℕ} {group : ℕ → ℕ} {g : List Float} → ((p : ℕ) → p < m → group p < ng) → Filled F ng g → Named m group F g
named_filled below all = record { each = λ p h. all.each _ (below p h) }

-- row i comes back in the middle of the table
pub rows_more : (first i ng : ℕ) (c : Groups) (F : ℕ → ℕ → Float) (g ys rest : List Float) → i * ng ≤ length g → ng ≤ length ys → ((j p : ℕ) → j ≤ i → p < c.length j → c.group j p < ng) →
    ListedRows first i ng c F g → Named (c.length i) (c.group i) (F i) ys → ListedRows first (i + 1) ng c F (take (i * ng) g ++ (ys ++ rest))
rows_more first i ng c F g ys rest h l below all row = record {
  each = λ j a b p q.
      by_place j i
      (λ d. back-before (i * ng) g ys rest (j * ng + c.group j p) h (cell-lt i ng j (c.group j p) d (below j p (omega arith) q)) ∙ all.each j a d p q)
      (λ e. rw (← e) (own p (rw (← e) at q)))
      (λ d. absurd (omega arith));
}
  where
    own : (p : ℕ) → p < c.length i → at (take (i * ng) g ++ (ys ++ rest)) (i * ng + c.group i p) ≡ F i (c.group i p)
    own p q = back-within (i * ng) g ys rest (c.group i p) h (omega (arith, below i p (omega arith) q)) ∙ row.each p q

-- ---- ln γ from what the components share

pub shares-from : (n : ℕ) (c : Groups) (R Q : ℕ → Float) (x : ℕ → Float) {r q : List Float} {rs qs : Float} →
    Filled (size c R) n r → Filled (size c Q) n q → rs ≡ sum n (λ j. x j ⊗ at r j) → qs ≡ sum n (λ j. x j ⊗ at q j) →
    Shares n c R Q x (record { r = r; q = q; rs = rs; qs = qs })
unfolding size_sum
shares-from n c R Q x r_all q_all r_sum q_sum = record {
  r_each = r_all;
  q_each = q_all;
  r_sum = r_sum ∙ sum_same n _ _ (λ j h. rw (r_all.each j h));
  q_sum = q_sum ∙ sum_same n _ _ (λ j h. rw (q_all.each j h));
}

pub ln_from_lem : (s : Shared) (ng : ℕ) (c : Groups) (Q : ℕ → Float) (Ψ : ℕ → ℕ → Float) (Θ : ℕ → Float) (P : ℕ → ℕ → Float) (i : ℕ) {u v : Float} →
    u ≡ combinatorial_from s i → v ≡ residual c (ln_group ng Q Ψ Θ) P i → u ⊕ v ≡ ln_from s ng c Q Ψ Θ P i
unfolding ln_from
ln_from_lem s ng c Q Ψ Θ P i p q = rw (p, q)

module _ (n ng : ℕ) (c : Groups) (R Q : ℕ → Float) (Ψ P : ℕ → ℕ → Float) (x : ℕ → Float) {s : Shared} {th : List Float}
    (all : Shares n c R Q x s) (thetas : Filled (theta ng Q (fraction n c x)) ng th) (lists : (i : ℕ) → i < n → SameList ng c c i) where
  ln_shared : (i : ℕ) → i < n → ln_from s ng c Q Ψ (at th) P i ≡ ln_gamma n ng c R Q Ψ P x i
  unfolding ln_from combinatorial_from ln_gamma combinatorial mixed
  ln_shared i h =
      rw (
        all.r_each.each i h,
        all.q_each.each i h,
        all.r_sum,
        all.q_sum,
        residual-same (lists i h) _ _ P P (group-from ng Q Ψ _ thetas) (λ p b. refl),
      )

  unifac-shared : (q : Quantity) → index_fault n q ≡ 0 →
      quantity q (ln_from s ng c Q Ψ (at th) P) (sum n (λ i. x i ⊗ ln_from s ng c Q Ψ (at th) P i)) ≡ unifac_by n ng c R Q Ψ P x q
  unfolding unifac_by excess
  unifac-shared q z = quantity-same n q _ _ _ _ z ln_shared (sum_same n _ _ (λ i h. rw (ln_shared i h)))

  -- what `over` answers for each quantity
  pub unifac_ln : {q : Quantity} {i : ℕ} {v : Float} → q ≡ LnGamma i → index_fault n q ≡ 0 → v ≡ ln_from s ng c Q Ψ (at th) P i → v ≡ unifac_by n ng c R Q Ψ P x q
  unifac_ln {q} e z p = quantity_ln _ _ e p ∙ unifac-shared q z

  pub unifac_gamma : {q : Quantity} {i : ℕ} {v w : Float} → q ≡ Gamma i → index_fault n q ≡ 0 → w ≡ ln_from s ng c Q Ψ (at th) P i → v ≡ exp_of w → v ≡ unifac_by n ng c R Q Ψ P x q
  unifac_gamma {q} e z p r = quantity_gamma _ _ e p r ∙ unifac-shared q z

  pub unifac-excess : {q : Quantity} {v : Float} → q ≡ ExcessGibbs → index_fault n q ≡ 0 → v ≡ sum n (λ i. x i ⊗ ln_from s ng c Q Ψ (at th) P i) → v ≡ unifac_by n ng c R Q Ψ P x q
  unifac-excess {q} e z p = quantity-excess (ln_from s ng c Q Ψ (at th) P) _ e p ∙ unifac-shared q z

-- ---- lists and values in slices

pub listed_same : {n ng : ℕ} {lens groups : List ℕ} {counts : List Float} → Listed n ng lens groups counts → (i : ℕ) → i < n → SameList ng (lists lens groups counts) (lists lens groups counts) i
unfolding lists
listed_same {n} {ng} {lens} all i h = same_self ng _ i (λ p b. all.below (start lens i + p) (list_place lens i n p h b))

-- a table whose rows that count are those of the pure components
pub value-pure : (n ng : ℕ) (lens groups : List ℕ) (values table : List Float) (Ψ : ℕ → ℕ → Float) (x : ℕ → Float) (q : Quantity) {s a b : ℕ} {v : Float} → Loaded n ng lens groups values → index_fault n q ≡ 0 → s ≡ counts_at ng →
    ((i : ℕ) → i < n → reads q i ≡ true → (a ≤ i) × (i < b)) → ListedRows a b ng (lists lens groups (from s values)) (pure ng (lists lens groups (from s values)) (at (from ng values)) Ψ) table →
    v ≡ unifac_by n ng (lists lens groups (from (counts_at ng) values)) (group_rs ng values) (group_qs ng values) Ψ (grid ng table) x q →
    v ≡ unifac n ng (lists lens groups (from (counts_at ng) values)) (group_rs ng values) (group_qs ng values) Ψ x q
unfolding unifac group_qs counts_at
value-pure n ng lens groups values table Ψ x q {s} {a} {b} all z e span rows p =
    let own : ListedRows a b ng (lists lens groups (from (counts_at ng) values)) (pure ng (lists lens groups (from (counts_at ng) values)) (at (from ng values)) Ψ) table = rw e at rows in
    let same = listed_same all.listed in
    p
    ∙ unifac_by_same n ng _ _ same
    _ _ (λ k b. refl) _ _ (λ m k b c. refl) _ _ (λ i h. refl) _ _ (λ k b. refl) (grid ng table) _ q z
    (λ i h r p c.
    own.each i (span i h r).0 (span i h r).1 p c
    ∙ pure-one-same (same i h) _ _ (λ k b. from_at values ng k (omega (arith, all.tables))) Ψ Ψ (λ m k b c. refl) _ ((same i h).below p c))

-- a mixture that holds the values goes by the parts where Q and the counts start
module _ (n ng : ℕ) (lens groups : List ℕ) (values psi x : List Float) (m : Mixture) (has : HasData n ng lens groups values psi x m) (table : List Float) (q : Quantity) (all : Loaded n ng lens groups values) (z : index_fault n q ≡ 0) where
  pub value-from : {v : Float} → v ≡ unifac_by m.lists.n m.lists.ng (lists_of m.lists) (r_of m) (q_of m) (psi_of m) (grid m.lists.ng table) (x_of m) q →
      v ≡ unifac_by n ng (lists lens groups (from (counts_at ng) values)) (group_rs ng values) (group_qs ng values) (grid ng psi) (grid ng table) (at x) q
  unfolding group_rs group_qs counts_at
  value-from p =
      rw (has.components, has.width, has.lengths, has.names, has.counts, has.rs, has.qs, has.psis, has.fractions) at p
      ∙ unifac_by_same n ng _ _ (listed_same all.listed)
      _ _ (λ k b. from_at values ng k (omega (arith, all.tables)))
      _ _ (λ m k b c. refl) _ _ (λ i h. refl) _ _ (λ k b. refl) (grid ng table) (grid ng table) q z (λ i h r p b. refl)

  -- the same of what it holds
  pub value-held : {first last : ℕ} {v : Float} → ((i : ℕ) → i < n → reads q i ≡ true → (first ≤ i) × (i < last)) →
      ListedRows first last m.lists.ng (lists_of m.lists) (pure m.lists.ng (lists_of m.lists) (q_of m) (psi_of m)) table →
      v ≡ unifac_by n ng (lists lens groups (from (counts_at ng) values)) (group_rs ng values) (group_qs ng values) (grid ng psi) (grid ng table) (at x) q →
      v ≡ unifac n ng (lists lens groups (from (counts_at ng) values)) (group_rs ng values) (group_qs ng values) (grid ng psi) (at x) q
  value-held span rows = value-pure n ng lens groups values table (grid ng psi) (at x) q all z refl span (rw (has.width, has.lengths, has.names, has.counts, has.qs, has.psis) at rows)

-- a table that is filled with the exponentials at T
pub value-filled : (n ng : ℕ) (lens groups : List ℕ) (values table : List Float) (x : ℕ → Float) (T : Float) (q : Quantity) {v : Float} → Loaded n ng lens groups values → index_fault n q ≡ 0 →
    Filled (flat ng (group_energy (λ m k. td_at (group_as ng values m k) T) T)) (ng * ng) table →
    v ≡ unifac n ng (lists lens groups (from (counts_at ng) values)) (group_rs ng values) (group_qs ng values) (grid ng table) x q →
    v ≡ unifac_at n ng (lists lens groups (from (counts_at ng) values)) (group_rs ng values) (group_qs ng values) (group_as ng values) T x q
unfolding unifac_at
value-filled n ng lens groups values table x T q all z filled p =
    p ∙ unifac-same n ng _ _ (listed_same all.listed) _ _ (λ k b. refl) _ _ (filled-cell ng ng _ filled) _ _ (λ i h. refl) _ _ (λ k b. refl) q z
