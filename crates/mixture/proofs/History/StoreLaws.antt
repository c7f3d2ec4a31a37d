-- A setting stored in the lent values replaces, of all the names that the model has, the one that it names: names have
-- places of their own.
use mathlib.Core.Path.{◌≡◌, refl, sym, ◌∙◌}
use mathlib.Core.Bool.{true, ◌&&◌}
use mathlib.Core.List.{[]}
use mathlib.Core.Logic.{◌⊎◌, inl, inr}
use Prim.Native.Nat.{ℕ, ◌+◌, ◌≤◌}
use native.Mathlib.Numerals.{add-one}
use native.Mathlib.Omega.{arith}
use lib.Dec.{eqb}
use lib.ListN.{length}
use lib.Seq.{sets, length-sets}
use lib.Ieee.{Float, nan}
use borrow.Author.Tests.{eqb-true}
use Rattle.arithmetic.specs.Tables.{at, from}
use Rattle.arithmetic.specs.declared.parameters.TdParam.{TdParam}
use Rattle.arithmetic.proofs.Tests.{either}
use Rattle.models.specs.Values.{five_at, counts_at, start, lists}
use Rattle.mixture.specs.declared.setting.Setting.{Setting}
use Rattle.mixture.specs.declared.setting.Setting.TheVariants.{Temperature, Entry, TdEntry, Size, Count, Tolerance}
use Rattle.mixture.specs.Holdings.{held, entries, td_entries, sizes}
use Rattle.models.specs.Model.{ModelData, model_data, size_of}
use Rattle.mixture.specs.Faults.{has_entry, has_td_entry, has_size, has_count, case_fault}
use Rattle.mixture.specs.Layout.{place, numbers}
use Rattle.mixture.specs.Book.{replaced, set_in}
use Rattle.mixture.proofs.PlaceLaws.{both, had, at_set, Away, at_away, five_away, five-within, entry-reads, td_reads, size-reads, count-reads, entry-places, size-places, count-places, td_places, td_entry_lem, entry-size, size_td, td_count, size-count, entry-count, entry_in, td_in, size_in, count_in_lem}

abbrev pub stored : ModelData → Setting → ModelData
stored d s = model_data d.model d.n d.ng d.lens d.groups (sets d.values (place d s) (numbers s))

module _ (d : ModelData) (room : size_of d ≤ length d.values) where
  -- ---- a store that doesn't reach a name leaves it

  kept : (s z : Setting) {a b : Float} → a ≡ at (stored d s).values (place d z) → b ≡ at d.values (place d z)
      → Away (place d s) (length (numbers s)) (place d z) → a ≡ b
  kept s z p q far = p ∙ (at_away d.values (place d s) (numbers s) (place d z) far ∙ sym q)

  entry_kept : (s : Setting) (i j : ℕ) → has_entry (held d) i j ≡ true → Away (place d s) (length (numbers s)) (place d (Entry i j nan))
      → entries (stored d s) i j ≡ entries d i j
  unfolding has_entry place
  entry_kept s i j h far = kept s (Entry i j nan) (entry-reads (stored d s) d.model i j nan h) (entry-reads d d.model i j nan h) far

  td_kept : (s : Setting) (i j : ℕ) → has_td_entry (held d) i j ≡ true
      → (place d (TdEntry i j (five_at [] 0)) + 5 ≤ place d s) ⊎ (place d s + length (numbers s) ≤ place d (TdEntry i j (five_at [] 0)))
      → td_entries (stored d s) i j ≡ td_entries d i j
  unfolding has_td_entry place
  td_kept s i j h far =
      td_reads (stored d s) d.model i j (five_at [] 0) h
      ∙ (five_away d.values (place d s) (numbers s) (place d (TdEntry i j (five_at [] 0))) far ∙ sym (td_reads d d.model i j (five_at [] 0) h))

  size-kept : (s : Setting) (i w : ℕ) → has_size (held d) i w ≡ true → Away (place d s) (length (numbers s)) (place d (Size i w nan))
      → sizes (stored d s) i w ≡ sizes d i w
  unfolding has_size place
  size-kept s i w h far = kept s (Size i w nan) (size-reads (stored d s) d.model i w nan h) (size-reads d d.model i w nan h) far

  roomy : (s : Setting) → size_of (stored d s) ≤ length (stored d s).values
  roomy s = rw (length-sets d.values (place d s) (numbers s)) room

  abbrev count_in : ModelData → ℕ → ℕ → Float
  count_in e i j = at (from (counts_at d.ng) e.values) (start d.lens i + j)

  count_kept : (s : Setting) (i j : ℕ) → has_count (held d) i j ≡ true → Away (place d s) (length (numbers s)) (place d (Count i j nan))
      → count_in (stored d s) i j ≡ count_in d i j
  unfolding has_count place lists
  count_kept s i j h far = kept s (Count i j nan) (count-reads (stored d s) d.model i j nan h (roomy s)) (count-reads d d.model i j nan h room) far

  -- ---- each name after a setting

  pub entry-after : (s : Setting) → case_fault (held d) s ≡ 0 → (i j : ℕ) → has_entry (held d) i j ≡ true
      → entries (stored d s) i j ≡ (set_in s (held d)).entry i j
  unfolding case_fault has_entry set_in replaced place
  entry-after (Temperature T) f i j h = refl
  entry-after (Entry r s a) f i j h =
      let g = had (has_entry (held d) r s) 0 f in
      entry-reads (stored d (Entry r s a)) d.model i j a h
      ∙ at_set d.values (place d (Entry r s a)) (place d (Entry i j a)) a (omega (arith, entry_in d d.model r s a g))
      ∙ rw (entry-places d d.model i j r s a a h g, entry-reads d d.model i j a h)
  entry-after (TdEntry r s p) f i j h =
      let g = had (has_td_entry (held d) r s) 0 f in
      entry_kept (TdEntry r s p) i j h (inr (td_entry_lem d d.model r s i j p nan g h))
  entry-after (Size r w a) f i j h =
      let g = had (has_size (held d) r w) 0 f in
      entry_kept (Size r w a) i j h (inl (entry-size d d.model i j r w nan a h g))
  entry-after (Count r s a) f i j h = entry-count d d.model i j r s h (had (has_count (held d) r s) _ f)
  entry-after (Tolerance ε) f i j h = refl

  td_stored : (r s : ℕ) (p : TdParam) → has_td_entry (held d) r s ≡ true → (i j : ℕ) → has_td_entry (held d) i j ≡ true
      → (eqb i r ≡ true) × (eqb j s ≡ true) → td_entries (stored d (TdEntry r s p)) i j ≡ p
  unfolding has_td_entry place
  td_stored r s p g i j h e =
      td_reads (stored d (TdEntry r s p)) d.model i j p h
      ∙ rw (eqb-true i r e.0, eqb-true j s e.1)
      (five-within d.values (place d (TdEntry r s p)) p (omega (arith, td_in d d.model r s p g)))

  pub td_after : (s : Setting) → case_fault (held d) s ≡ 0 → (i j : ℕ) → has_td_entry (held d) i j ≡ true
      → td_entries (stored d s) i j ≡ (set_in s (held d)).td_entry i j
  unfolding case_fault has_td_entry set_in replaced
  td_after (Temperature T) f i j h = refl
  td_after (Entry r s a) f i j h =
      let g = had (has_entry (held d) r s) 0 f in
      td_kept (Entry r s a) i j h (inl (td_entry_lem d d.model i j r s (five_at [] 0) a h g))
  td_after (TdEntry r s p) f i j h =
      let g = had (has_td_entry (held d) r s) 0 f in
      elim (either (eqb i r && eqb j s)) [
        | inl e ↦ rw e (td_stored r s p g i j h (both (eqb i r) (eqb j s) e))
        | inr e ↦ rw e (td_kept (TdEntry r s p) i j h (td_places d d.model i j r s (five_at [] 0) p h g e))
      ]
  td_after (Size r w a) f i j h =
      let g = had (has_size (held d) r w) 0 f in
      td_kept (Size r w a) i j h (inr (rw (add-one) (size_td d d.model r w i j a (five_at [] 0) g h)))
  td_after (Count r s a) f i j h =
      let g = had (has_count (held d) r s) _ f in
      td_kept (Count r s a) i j h (inl (td_count d d.model i j r s (five_at [] 0) a h g))
  td_after (Tolerance ε) f i j h = refl

  pub size-after : (s : Setting) → case_fault (held d) s ≡ 0 → (i w : ℕ) → has_size (held d) i w ≡ true
      → sizes (stored d s) i w ≡ (set_in s (held d)).size i w
  unfolding case_fault has_size set_in replaced place
  size-after (Temperature T) f i w h = refl
  size-after (Entry r s a) f i w h =
      let g = had (has_entry (held d) r s) 0 f in
      size-kept (Entry r s a) i w h (inr (omega (arith, entry-size d d.model r s i w a nan g h)))
  size-after (TdEntry r s p) f i w h =
      let g = had (has_td_entry (held d) r s) 0 f in
      size-kept (TdEntry r s p) i w h (inl (size_td d d.model i w r s nan p h g))
  size-after (Size r u a) f i w h =
      let g = had (has_size (held d) r u) 0 f in
      size-reads (stored d (Size r u a)) d.model i w a h
      ∙ at_set d.values (place d (Size r u a)) (place d (Size i w a)) a (omega (arith, size_in d d.model r u a g))
      ∙ rw (size-places d d.model i w r u a a h g, size-reads d d.model i w a h)
  size-after (Count r s a) f i w h =
      let g = had (has_count (held d) r s) _ f in
      size-kept (Count r s a) i w h (inl (size-count d d.model i w r s nan a h g))
  size-after (Tolerance ε) f i w h = refl

  pub count-after : (s : Setting) → case_fault (held d) s ≡ 0 → (i j : ℕ) → has_count (held d) i j ≡ true
      → count_in (stored d s) i j ≡ (set_in s (held d)).lists.count i j
  unfolding case_fault has_count set_in replaced place lists
  count-after (Temperature T) f i j h = refl
  count-after (Entry r s a) f i j h = entry-count d d.model r s i j (had (has_entry (held d) r s) 0 f) h
  count-after (TdEntry r s p) f i j h =
      let g = had (has_td_entry (held d) r s) 0 f in
      count_kept (TdEntry r s p) i j h (inr (td_count d d.model r s i j p nan g h))
  count-after (Size r w a) f i j h =
      let g = had (has_size (held d) r w) 0 f in
      count_kept (Size r w a) i j h (inr (omega (arith, size-count d d.model r w i j a nan g h)))
  count-after (Count r s a) f i j h =
      let g = had (has_count (held d) r s) _ f in
      count-reads (stored d (Count r s a)) d.model i j a h (roomy (Count r s a))
      ∙ at_set d.values (place d (Count r s a)) (place d (Count i j a)) a (omega (arith, count_in_lem d d.model r s a g))
      ∙ rw (count-places d d.model i j r s a a h g, count-reads d d.model i j a h room)
  count-after (Tolerance ε) f i j h = refl
