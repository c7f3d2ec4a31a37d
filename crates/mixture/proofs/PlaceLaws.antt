-- The lent memory's places: a name is read where a setting of it is stored, names have places of their own, and all
-- of them stand within the model's values.
use mathlib.Core.Path.{◌≡◌, refl, sym, ap, ◌∙◌}
use mathlib.Core.Bool.{Bool, true, false, ◌&&◌, cond}
use mathlib.Core.List.{List, [], ◌∷◌}
use mathlib.Core.Logic.{◌⊎◌, inl, inr, ⊎_elim}
use Prim.Native.Nat.{ℕ, zero, suc, ◌+◌, ◌*◌, ◌/◌, ◌%◌, ◌<◌, ◌≤◌}
use native.Mathlib.Nat.{add-zero, add-suc, suc-add, add_assoc, zero-mul, one-mul, zero-add, eq-or-lt_of_le}
use native.Mathlib.Omega.{arith}
use lib.Dec.{ltb, eqb}
use lib.ListN.{length, get_or, set, length-set}
use lib.Seq.{sets, get_or-set_same, get_or-set_other}
use lib.Ieee.{Float, nan}
use borrow.Author.Tests.{ltb-true, eqb-true, eqb-false, eq-eqb, ne_eqb}
use Rattle.arithmetic.specs.Tables.{at, from}
use Rattle.arithmetic.specs.declared.parameters.TdParam.{TdParam}
use Rattle.arithmetic.proofs.Tests.{either, le-or}
use Rattle.arithmetic.proofs.TableLaws.{cell-lt, cell_row, cell-column, from_at}
use Rattle.models.specs.Values.{five_at, td_grid, wilson_size, energies, volumes, uniquac_size, rs, qs, nrtl_size, taus, alphas, counts_at, group_rs, group_qs, group_as, start, unifac_size, lists}
use Rattle.models.proofs.GroupListLaws.{list_place}
use Rattle.models.specs.declared.model.Model.{Model}
use Rattle.models.specs.declared.model.Model.TheVariants.{Wilson, Uniquac, Nrtl, Unifac}
use Rattle.mixture.specs.declared.setting.Setting.{Setting}
use Rattle.mixture.specs.declared.setting.Setting.TheVariants.{Temperature, Entry, TdEntry, Size, Count, Tolerance}
use Rattle.mixture.specs.Holdings.{held, entries, td_entries, sizes}
use Rattle.models.specs.Model.{ModelData, model_data, by_model, size_of}
use Rattle.mixture.specs.Faults.{below, has_entry, has_td_entry, has_size, has_count, case_fault}
use Rattle.mixture.specs.Layout.{place, numbers}
use Rattle.mixture.proofs.ListLaws.{never}

-- ---- tests

pub both : (a b : Bool) → (a && b) ≡ true → (a ≡ true) × (b ≡ true)
both true b h = (refl, h)
both false b h = never (sym h)

pub below-is : (i m j n : ℕ) → below i m j n ≡ true → (i < m) × (j < n)
below-is i m j n h = let b = both (ltb i m) (ltb j n) h in (ltb-true i m b.0, ltb-true j n b.1)

pub eq_cases : (a b : ℕ) → (a ≡ b) ⊎ (a ≡ b → ⊥)
eq_cases a b = elim (either (eqb a b)) [ inl e ↦ inl (eqb-true a b e) | inr e ↦ inr (eqb-false a b e) ]

-- what passing a test shows
pub passed : (t : Bool) (x k : ℕ) → (k ≡ 0 → ⊥) → cond t x k ≡ 0 → (t ≡ true) × (x ≡ 0)
passed true x k n h = (refl, h)
passed false x k n h = absurd (n h)

pub spared : (t : Bool) (x k : ℕ) → (k ≡ 0 → ⊥) → cond t k x ≡ 0 → (t ≡ false) × (x ≡ 0)
spared true x k n h = absurd (n h)
spared false x k n h = (refl, h)

pub nought : (k : ℕ) → suc k ≡ 0 → ⊥
nought k h = omega arith

-- 10 is the number of a name that the model doesn't have
pub had : (t : Bool) (x : ℕ) → cond t x 10 ≡ 0 → t ≡ true
had t x h = (passed t x 10 (nought 9) h).0

-- two pairs are one where a number of theirs is, and it tells them apart
eqb_pair : (i j k l p q : ℕ) → (p ≡ q → (i ≡ k) × (j ≡ l)) → ((i ≡ k) → (j ≡ l) → p ≡ q) → eqb p q ≡ (eqb i k && eqb j l)
eqb_pair i j k l p q f g =
    elim (eq_cases i k) [
      | inl a ↦
          elim (eq_cases j l) [
            | inl b ↦ rw (eq-eqb p q (g a b), eq-eqb i k a, eq-eqb j l b)
            | inr b ↦ rw (ne_eqb p q (λ e. b (f e).1), eq-eqb i k a, ne_eqb j l b)
          ]
      | inr a ↦ rw (ne_eqb p q (λ e. a (f e).0), ne_eqb i k a)
    ]

-- ---- rows

-- a place of rows of n is another's only where row and column are
place_is : (n i j k l : ℕ) → j < n → l < n → i * n + j ≡ k * n + l → (i ≡ k) × (j ≡ l)
place_is n i j k l b c e = (
  sym (cell_row n i j b) ∙ (ap (λ (p : ℕ). p / n) e ∙ cell_row n k l c),
  sym (cell-column n i j b) ∙ (ap (λ (p : ℕ). p % n) e ∙ cell-column n k l c),
)

rows-eqb : (n i j k l : ℕ) → j < n → l < n → eqb (i * n + j) (k * n + l) ≡ (eqb i k && eqb j l)
rows-eqb n i j k l b c = eqb_pair i j k l _ _ (place_is n i j k l b c) (λ p q. rw (p, q))

fives-apart : (p q : ℕ) → (p ≡ q → ⊥) → (p * 5 + 5 ≤ q * 5) ⊎ (q * 5 + 5 ≤ p * 5)
fives-apart p q ne =
    elim (le-or p q) [
      | inl g ↦ elim (eq-or-lt_of_le g) [ inl e ↦ absurd (ne e) | inr l ↦ inl (omega arith) ]
      | inr g ↦ inr (omega arith)
    ]

-- ---- stores

pub at_set : (l : List Float) (p q : ℕ) (v : Float) → p < length l → at (set l p v) q ≡ cond (eqb q p) v (at l q)
at_set l p q v h =
    elim (eq_cases q p) [
      | inl e ↦ rw (eq-eqb q p e) (rw e (get_or-set_same l p v nan h))
      | inr e ↦ rw (ne_eqb q p e) (get_or-set_other l p q v nan e)
    ]

-- the place q is before the numbers from p on, or past them
abbrev pub Away : ℕ → ℕ → ℕ → Type 0
Away p m q = (q < p) ⊎ (p + m ≤ q)

pub at_away : (l : List Float) (p : ℕ) (vs : List Float) (q : ℕ) → Away p (length vs) q → at (sets l p vs) q ≡ at l q
at_away l p [] q h = refl
at_away l p (a ∷ vs) q h =
    at_away (set l p a) (suc p) vs q (⊎_elim (λ (g : q < p). inl (omega arith)) (λ (g : p + suc (length vs) ≤ q). inr (omega arith)) h)
    ∙ get_or-set_other l p q a nan (λ e. ⊎_elim (λ (g : q < p). omega arith) (λ (g : p + suc (length vs) ≤ q). omega arith) h)

at-within : (vs l : List Float) (p k : ℕ) → k < length vs → p + length vs ≤ length l → at (sets l p vs) (p + k) ≡ at vs k
at-within [] l p k h g = absurd (omega arith)
at-within (a ∷ vs) l p zero h g =
    rw (add-zero p) (at_away (set l p a) (suc p) vs p (inl (omega arith)) ∙ get_or-set_same l p a nan (omega arith))
at-within (a ∷ vs) l p (suc k) h g =
    rw (add-suc p k, ← (suc-add p k)) (at-within vs (set l p a) (suc p) k (omega arith) (rw (length-set l p a) (omega arith)))

-- a td entry's five
abbrev pub five_of : TdParam → List Float
five_of P = P.a ∷ P.b ∷ P.c ∷ P.d ∷ P.e ∷ []

pub five_away : (l : List Float) (p : ℕ) (vs : List Float) (q : ℕ) → (q + 5 ≤ p) ⊎ (p + length vs ≤ q) → five_at (sets l p vs) q ≡ five_at l q
unfolding five_at
five_away l p vs q h =
    rw (
      at_away l p vs q (far 0 q (omega arith) (omega arith)),
      at_away l p vs (q + 1) (far 1 (q + 1) (omega arith) (omega arith)),
      at_away l p vs (q + 2) (far 2 (q + 2) (omega arith) (omega arith)),
      at_away l p vs (q + 3) (far 3 (q + 3) (omega arith) (omega arith)),
      at_away l p vs (q + 4) (far 4 (q + 4) (omega arith) (omega arith)),
    )
  where
    far : (d r : ℕ) → r ≤ q + 4 → q ≤ r → Away p (length vs) r
    far d r a b = ⊎_elim (λ (g : q + 5 ≤ p). inl (omega arith)) (λ (g : p + length vs ≤ q). inr (omega arith)) h

pub five-within : (l : List Float) (p : ℕ) (P : TdParam) → p + 5 ≤ length l → five_at (sets l p (five_of P)) p ≡ P
unfolding five_at
five-within l p P h = rw (first, w 1 (omega arith), w 2 (omega arith), w 3 (omega arith), w 4 (omega arith))
  where
    w : (k : ℕ) → k < 5 → at (sets l p (five_of P)) (p + k) ≡ at (five_of P) k
    w k b = at-within (five_of P) l p k b h

    first : at (sets l p (five_of P)) p ≡ P.a
    first = rw (add-zero p) at (w 0 (omega arith))

-- ---- the places of a model's values

-- a place of the lists, one after the other, is another's only where component and place are
list_once : (lens : List ℕ) (i j r s : ℕ) → j < get_or lens i 0 → s < get_or lens r 0 → start lens i + j ≡ start lens r + s → (i ≡ r) × (j ≡ s)
list_once lens i j r s h g e =
    elim (le-or i r) [
      | inl a ↦
          elim (eq-or-lt_of_le a) [
            | inl q ↦ (q, let z : start lens i ≡ start lens r = ap (start lens) q in omega arith)
            | inr l ↦ absurd (omega (arith, list_place lens i r j l h))
          ]
      | inr b ↦ absurd (omega (arith, list_place lens r i s b g))
    ]

-- ---- the bounds of each case's places

module _ (d : ModelData) where
  abbrev n : ℕ
  n = d.n

  abbrev ng : ℕ
  ng = d.ng

  abbrev lens : List ℕ
  lens = d.lens

  abbrev v : List Float
  v = d.values

  -- the same sizes and values for a model k; D d.model is d
  abbrev pub D : Model → ModelData
  D k = model_data k n ng lens d.groups v

  entry-bounds : (k : Model) (i j : ℕ) (a : Float) → has_entry (held (D k)) i j ≡ true
      → (by_model k 0 0 (n * n * 5) 0 ≤ place (D k) (Entry i j a))
      × (place (D k) (Entry i j a) < by_model k (n * n) (n * n) (n * n * 5 + n * n) 0)
  unfolding has_entry place
  entry-bounds Wilson i j a h = let b = below-is i n j n h in (omega arith, cell-lt n n i j b.0 b.1)
  entry-bounds Uniquac i j a h = let b = below-is i n j n h in (omega arith, cell-lt n n i j b.0 b.1)
  entry-bounds Nrtl i j a h = let b = below-is i n j n h in (omega arith, omega (arith, cell-lt n n i j b.0 b.1))
  entry-bounds Unifac i j a h = never (sym h)

  td_bounds : (k : Model) (i j : ℕ) (p : TdParam) → has_td_entry (held (D k)) i j ≡ true
      → (by_model k 0 0 0 (ng + ng) ≤ place (D k) (TdEntry i j p))
      × (place (D k) (TdEntry i j p) + 5 ≤ by_model k 0 0 (n * n * 5) (counts_at ng))
  unfolding has_td_entry place counts_at
  td_bounds Wilson i j p h = never (sym h)
  td_bounds Uniquac i j p h = never (sym h)
  td_bounds Nrtl i j p h = let b = below-is i n j n h in (omega arith, omega (arith, cell-lt n n i j b.0 b.1))
  td_bounds Unifac i j p h = let b = below-is i ng j ng h in (omega arith, omega (arith, cell-lt ng ng i j b.0 b.1))

  size-bounds : (k : Model) (i w : ℕ) (a : Float) → has_size (held (D k)) i w ≡ true
      → (by_model k (n * n) (n * n) 0 0 ≤ place (D k) (Size i w a))
      × (place (D k) (Size i w a) < by_model k (n * n + n) (n * n + n + n) 0 (ng + ng))
  unfolding has_size place
  size-bounds Wilson i w a h = let b = below-is i n w 1 h in (omega arith, omega arith)
  size-bounds Uniquac i w a h = let b = below-is i n w 2 h in (omega arith, omega (arith, cell-lt 2 n w i b.1 b.0))
  size-bounds Nrtl i w a h = never (sym h)
  size-bounds Unifac i w a h = let b = below-is i ng w 2 h in (omega arith, omega (arith, cell-lt 2 ng w i b.1 b.0))

  count-bounds : (k : Model) (i j : ℕ) (a : Float) → has_count (held (D k)) i j ≡ true
      → (by_model k 0 0 0 (counts_at ng) ≤ place (D k) (Count i j a))
      × (place (D k) (Count i j a) < size_of (D k))
  unfolding has_count place lists unifac_size
  count-bounds Wilson i j a h = never (sym h)
  count-bounds Uniquac i j a h = never (sym h)
  count-bounds Nrtl i j a h = never (sym h)
  count-bounds Unifac i j a h =
      let b = below-is i n j (get_or lens i 0) h in (omega arith, omega (arith, list_place lens i n j b.0 b.1))

  -- ---- a name is read at its place

  pub entry-reads : (k : Model) (i j : ℕ) (a : Float) → has_entry (held (D k)) i j ≡ true
      → entries (D k) i j ≡ at v (place (D k) (Entry i j a))
  unfolding has_entry place entries energies alphas
  entry-reads Wilson i j a h = refl
  entry-reads Uniquac i j a h = refl
  entry-reads Nrtl i j a h = refl
  entry-reads Unifac i j a h = never (sym h)

  pub td_reads : (k : Model) (i j : ℕ) (p : TdParam) → has_td_entry (held (D k)) i j ≡ true
      → td_entries (D k) i j ≡ five_at v (place (D k) (TdEntry i j p))
  unfolding has_td_entry place td_entries taus td_grid group_as
  td_reads Wilson i j p h = never (sym h)
  td_reads Uniquac i j p h = never (sym h)
  td_reads Nrtl i j p h = refl
  td_reads Unifac i j p h = refl

  pub size-reads : (k : Model) (i w : ℕ) (a : Float) → has_size (held (D k)) i w ≡ true
      → sizes (D k) i w ≡ at v (place (D k) (Size i w a))
  unfolding has_size place sizes volumes rs qs group_rs group_qs
  size-reads Wilson i w a h = refl
  size-reads Uniquac i zero a h = rw (zero-mul n, zero-add i)
  size-reads Uniquac i (suc zero) a h = rw (one-mul n, ← (add_assoc (n * n) n i))
  size-reads Uniquac i (suc (suc w)) a h = let b = below-is i n (suc (suc w)) 2 h in absurd (omega arith)
  size-reads Nrtl i w a h = never (sym h)
  size-reads Unifac i zero a h = rw (zero-mul ng, zero-add i)
  size-reads Unifac i (suc zero) a h = rw (one-mul ng)
  size-reads Unifac i (suc (suc w)) a h = let b = below-is i ng (suc (suc w)) 2 h in absurd (omega arith)

  pub count-reads : (k : Model) (i j : ℕ) (a : Float) → has_count (held (D k)) i j ≡ true
      → size_of (D k) ≤ length v
      → at (from (counts_at ng) v) (start lens i + j) ≡ at v (place (D k) (Count i j a))
  unfolding has_count place lists unifac_size
  count-reads Wilson i j a h g = never (sym h)
  count-reads Uniquac i j a h g = never (sym h)
  count-reads Nrtl i j a h g = never (sym h)
  count-reads Unifac i j a h g =
      let b = below-is i n j (get_or lens i 0) h in
      from_at v (counts_at ng) (start lens i + j) (omega (arith, list_place lens i n j b.0 b.1))

  -- ---- two names of one case have places of their own

  pub entry-places : (k : Model) (i j r s : ℕ) (a c : Float) → has_entry (held (D k)) i j ≡ true
      → has_entry (held (D k)) r s ≡ true
      → eqb (place (D k) (Entry i j a)) (place (D k) (Entry r s c)) ≡ (eqb i r && eqb j s)
  unfolding has_entry place
  entry-places Wilson i j r s a c h g = rows-eqb n i j r s (below-is i n j n h).1 (below-is r n s n g).1
  entry-places Uniquac i j r s a c h g = rows-eqb n i j r s (below-is i n j n h).1 (below-is r n s n g).1
  entry-places Nrtl i j r s a c h g =
      eqb_pair i j r s (n * n * 5 + (i * n + j)) (n * n * 5 + (r * n + s))
      (λ e. place_is n i j r s (below-is i n j n h).1 (below-is r n s n g).1 (omega arith))
      (λ p q. rw (p, q))
  entry-places Unifac i j r s a c h g = never (sym h)

  pub size-places : (k : Model) (i w r u : ℕ) (a c : Float) → has_size (held (D k)) i w ≡ true
      → has_size (held (D k)) r u ≡ true
      → eqb (place (D k) (Size i w a)) (place (D k) (Size r u c)) ≡ (eqb i r && eqb w u)
  unfolding has_size place
  size-places Wilson i w r u a c h g =
      let b = below-is i n w 1 h in
      let d = below-is r n u 1 g in
      eqb_pair i w r u (n * n + i) (n * n + r) (λ e. (omega arith, omega arith)) (λ p q. rw p)
  size-places Uniquac i w r u a c h g =
      let b = below-is i n w 2 h in
      let d = below-is r n u 2 g in
      eqb_pair i w r u (n * n + (w * n + i)) (n * n + (u * n + r)) (λ e. let z = place_is n w i u r b.0 d.0 (omega arith) in (z.1, z.0)) (λ p q. rw (p, q))
  size-places Nrtl i w r u a c h g = never (sym h)
  size-places Unifac i w r u a c h g =
      let b = below-is i ng w 2 h in
      let d = below-is r ng u 2 g in
      eqb_pair i w r u _ _ (λ e. let z = place_is ng w i u r b.0 d.0 e in (z.1, z.0)) (λ p q. rw (p, q))

  pub count-places : (k : Model) (i j r s : ℕ) (a c : Float) → has_count (held (D k)) i j ≡ true
      → has_count (held (D k)) r s ≡ true
      → eqb (place (D k) (Count i j a)) (place (D k) (Count r s c)) ≡ (eqb i r && eqb j s)
  unfolding has_count place lists
  count-places Wilson i j r s a c h g = never (sym h)
  count-places Uniquac i j r s a c h g = never (sym h)
  count-places Nrtl i j r s a c h g = never (sym h)
  count-places Unifac i j r s a c h g =
      let b = below-is i n j (get_or lens i 0) h in
      let d = below-is r n s (get_or lens r 0) g in
      eqb_pair i j r s (counts_at ng + (start lens i + j)) (counts_at ng + (start lens r + s)) (λ e. list_once lens i j r s b.1 d.1 (omega arith)) (λ p q. rw (p, q))

  -- td entries are equal, or five places apart
  pub td_places : (k : Model) (i j r s : ℕ) (p q : TdParam) → has_td_entry (held (D k)) i j ≡ true
      → has_td_entry (held (D k)) r s ≡ true → (eqb i r && eqb j s) ≡ false
      → (place (D k) (TdEntry i j p) + 5 ≤ place (D k) (TdEntry r s q))
      ⊎ (place (D k) (TdEntry r s q) + 5 ≤ place (D k) (TdEntry i j p))
  unfolding has_td_entry place
  td_places Wilson i j r s p q h g t = never (sym h)
  td_places Uniquac i j r s p q h g t = never (sym h)
  td_places Nrtl i j r s p q h g t =
      fives-apart (i * n + j) (r * n + s) (eqb-false _ _ (rows-eqb n i j r s (below-is i n j n h).1 (below-is r n s n g).1 ∙ t))
  td_places Unifac i j r s p q h g t =
      ⊎_elim
      (λ (y : (i * ng + j) * 5 + 5 ≤ (r * ng + s) * 5). inl (omega arith))
      (λ (y : (r * ng + s) * 5 + 5 ≤ (i * ng + j) * 5). inr (omega arith))
      (fives-apart (i * ng + j) (r * ng + s) (eqb-false _ _ (rows-eqb ng i j r s (below-is i ng j ng h).1 (below-is r ng s ng g).1 ∙ t)))

  -- ---- each case has a stretch of its own

  pub td_entry_lem : (k : Model) (i j r s : ℕ) (p : TdParam) (a : Float) → has_td_entry (held (D k)) i j ≡ true
      → has_entry (held (D k)) r s ≡ true
      → place (D k) (TdEntry i j p) + 5 ≤ place (D k) (Entry r s a)
  unfolding has_td_entry has_entry
  td_entry_lem Wilson i j r s p a h g = never (sym h)
  td_entry_lem Uniquac i j r s p a h g = never (sym h)
  td_entry_lem Nrtl i j r s p a h g = let b = td_bounds Nrtl i j p h in let c = entry-bounds Nrtl r s a g in omega arith
  td_entry_lem Unifac i j r s p a h g = never (sym g)

  pub entry-size : (k : Model) (i j r w : ℕ) (a c : Float) → has_entry (held (D k)) i j ≡ true
      → has_size (held (D k)) r w ≡ true
      → place (D k) (Entry i j a) < place (D k) (Size r w c)
  unfolding has_entry has_size
  entry-size Wilson i j r w a c h g = let b = entry-bounds Wilson i j a h in let d = size-bounds Wilson r w c g in omega arith
  entry-size Uniquac i j r w a c h g = let b = entry-bounds Uniquac i j a h in let d = size-bounds Uniquac r w c g in omega arith
  entry-size Nrtl i j r w a c h g = never (sym g)
  entry-size Unifac i j r w a c h g = never (sym h)

  pub size_td : (k : Model) (i w r s : ℕ) (a : Float) (p : TdParam) → has_size (held (D k)) i w ≡ true
      → has_td_entry (held (D k)) r s ≡ true
      → place (D k) (Size i w a) < place (D k) (TdEntry r s p)
  unfolding has_td_entry has_size
  size_td Wilson i w r s a p h g = never (sym g)
  size_td Uniquac i w r s a p h g = never (sym g)
  size_td Nrtl i w r s a p h g = never (sym h)
  size_td Unifac i w r s a p h g = let b = size-bounds Unifac i w a h in let d = td_bounds Unifac r s p g in omega arith

  pub td_count : (k : Model) (i j r s : ℕ) (p : TdParam) (a : Float) → has_td_entry (held (D k)) i j ≡ true
      → has_count (held (D k)) r s ≡ true
      → place (D k) (TdEntry i j p) + 5 ≤ place (D k) (Count r s a)
  unfolding has_td_entry has_count
  td_count Wilson i j r s p a h g = never (sym h)
  td_count Uniquac i j r s p a h g = never (sym h)
  td_count Nrtl i j r s p a h g = never (sym g)
  td_count Unifac i j r s p a h g = let b = td_bounds Unifac i j p h in let d = count-bounds Unifac r s a g in omega arith

  pub size-count : (k : Model) (i w r s : ℕ) (a c : Float) → has_size (held (D k)) i w ≡ true
      → has_count (held (D k)) r s ≡ true
      → place (D k) (Size i w a) < place (D k) (Count r s c)
  unfolding has_size has_count counts_at
  size-count Wilson i w r s a c h g = never (sym g)
  size-count Uniquac i w r s a c h g = never (sym g)
  size-count Nrtl i w r s a c h g = never (sym g)
  size-count Unifac i w r s a c h g = let b = size-bounds Unifac i w a h in let d = count-bounds Unifac r s c g in omega arith

  pub entry-count : (k : Model) (i j r s : ℕ) {A : Type 0} → has_entry (held (D k)) i j ≡ true
      → has_count (held (D k)) r s ≡ true → A
  unfolding has_entry has_count
  entry-count Wilson i j r s h g = never (sym g)
  entry-count Uniquac i j r s h g = never (sym g)
  entry-count Nrtl i j r s h g = never (sym g)
  entry-count Unifac i j r s h g = never (sym h)

  -- ---- all of them within the model's values

  pub entry_in : (k : Model) (i j : ℕ) (a : Float) → has_entry (held (D k)) i j ≡ true
      → place (D k) (Entry i j a) + 1 ≤ size_of (D k)
  unfolding has_entry wilson_size uniquac_size nrtl_size
  entry_in Wilson i j a h = let b = entry-bounds Wilson i j a h in omega arith
  entry_in Uniquac i j a h = let b = entry-bounds Uniquac i j a h in omega arith
  entry_in Nrtl i j a h = let b = entry-bounds Nrtl i j a h in omega arith
  entry_in Unifac i j a h = never (sym h)

  pub td_in : (k : Model) (i j : ℕ) (p : TdParam) → has_td_entry (held (D k)) i j ≡ true
      → place (D k) (TdEntry i j p) + 5 ≤ size_of (D k)
  unfolding has_td_entry nrtl_size unifac_size
  td_in Wilson i j p h = never (sym h)
  td_in Uniquac i j p h = never (sym h)
  td_in Nrtl i j p h = let b = td_bounds Nrtl i j p h in omega arith
  td_in Unifac i j p h = let b = td_bounds Unifac i j p h in omega arith

  pub size_in : (k : Model) (i w : ℕ) (a : Float) → has_size (held (D k)) i w ≡ true
      → place (D k) (Size i w a) + 1 ≤ size_of (D k)
  unfolding has_size wilson_size uniquac_size unifac_size counts_at
  size_in Wilson i w a h = let b = size-bounds Wilson i w a h in omega arith
  size_in Uniquac i w a h = let b = size-bounds Uniquac i w a h in omega arith
  size_in Nrtl i w a h = never (sym h)
  size_in Unifac i w a h = let b = size-bounds Unifac i w a h in omega arith

  pub count_in_lem : (k : Model) (i j : ℕ) (a : Float) → has_count (held (D k)) i j ≡ true
      → place (D k) (Count i j a) + 1 ≤ size_of (D k)
  count_in_lem k i j a h = let b = count-bounds k i j a h in omega arith

-- a setting's numbers stay within the model's values
pub store_in : (d : ModelData) (s : Setting) → case_fault (held d) s ≡ 0 → place d s + length (numbers s) ≤ size_of d
unfolding case_fault place
store_in d (Temperature T) f = omega arith
store_in d (Entry i j a) f = entry_in d d.model i j a (had (has_entry (held d) i j) 0 f)
store_in d (TdEntry i j p) f = td_in d d.model i j p (had (has_td_entry (held d) i j) 0 f)
store_in d (Size i w a) f = size_in d d.model i w a (had (has_size (held d) i w) 0 f)
store_in d (Count i j a) f = count_in_lem d d.model i j a (had (has_count (held d) i j) _ f)
store_in d (Tolerance ε) f = omega arith
