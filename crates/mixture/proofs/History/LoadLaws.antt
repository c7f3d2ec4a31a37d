-- Two data whose values are equal over the model's length hold the same by name: every name is read within it. So what a load leaves in memory and
-- head is what it brought.
use mathlib.Core.Path.{◌≡◌, refl, sym, ◌∙◌}
use mathlib.Core.Bool.{true, false}
use mathlib.Core.List.{List, [], ◌++◌}
use Prim.Native.Nat.{ℕ, zero, suc, ◌+◌, ◌-◌, ◌<◌, ◌≤◌}
use native.Mathlib.Omega.{arith}
use lib.Dec.{leb, ltb}
use lib.ListN.{length, get_or, drop, replicate, length-append, get_or-append}
use lib.Ieee.{nan}
use borrow.Author.Tests.{le-leb, lt-ltb}
use Rattle.arithmetic.specs.Tables.{at}
use Rattle.models.specs.Faults.{usual_tolerance}
use Rattle.models.specs.Values.{five_at, start, lists}
use Rattle.models.specs.declared.model.Model.{Model}
use Rattle.models.specs.declared.model.Model.TheVariants.{Wilson, Uniquac, Nrtl, Unifac}
use Rattle.mixture.specs.declared.setting.Setting.{Setting}
use Rattle.mixture.specs.declared.setting.Setting.TheVariants.{Temperature, Entry, TdEntry, Size, Count, Tolerance}
use Rattle.mixture.specs.Lists.{padded}
use Rattle.mixture.specs.Holdings.{held}
use Rattle.models.specs.Model.{ModelData, by_model, model_of, is_model, size_of}
use Rattle.mixture.specs.Memory.{Memory}
use Rattle.mixture.specs.Layout.{data_in, place}
use Rattle.mixture.specs.Calls.{loaded_head, loaded_memory}
use Rattle.mixture.specs.Faults.{in_range}
use Rattle.mixture.proofs.ListLaws.{never, get_or_past}
use Rattle.mixture.proofs.History.RangeLaws.{at_all, Sound}
use Rattle.mixture.proofs.PlaceLaws.{nought, D, entry-reads, td_reads, size-reads, count-reads, entry_in, td_in, size_in, count_in_lem}
use Rattle.mixture.proofs.History.AgreeLaws.{Alike, Agrees, at-unifac, has_entry-same, has_td_entry-same, has_size-same, has_count-same}

module _ (e d : ModelData) (alike : Alike (held e) (held d)) (starts : d.model ≡ Unifac → (i : ℕ) → start e.lens i ≡ start d.lens i) where
  place_same : (s : Setting) → place e s ≡ place d s
  unfolding place
  place_same (Temperature T) = refl
  place_same (Entry i j v) = rw (alike.model, alike.n)
  place_same (TdEntry i j p) = rw (alike.model, alike.n) (at-unifac d.model _ _ _ (λ q. rw (alike.groups q).ng))
  place_same (Size i w v) = rw (alike.model, alike.n) (at-unifac d.model _ _ _ (λ q. rw (alike.groups q).ng))
  place_same (Count i j v) = rw alike.model (at-unifac d.model _ _ _ (λ q. rw ((alike.groups q).ng, starts q i)))
  place_same (Tolerance ε) = refl

  module _ (same : (p : ℕ) → p < size_of d → at e.values p ≡ at d.values p) (eroom : size_of e ≤ length e.values) (droom : size_of d ≤ length d.values) where
    here : (s : Setting) → place d s + 1 ≤ size_of d → at e.values (place e s) ≡ at d.values (place d s)
    here s h = rw (place_same s) (same (place d s) (omega arith))

    five : (s : Setting) → place d s + 5 ≤ size_of d → five_at e.values (place e s) ≡ five_at d.values (place d s)
    unfolding five_at
    five s h =
        rw (place_same s)
        (rw (
          same (place d s) (omega arith),
          same (place d s + 1) (omega arith),
          same (place d s + 2) (omega arith),
          same (place d s + 3) (omega arith),
          same (place d s + 4) (omega arith),
        ))

    read_agrees : Agrees (held e) (held d)
    unfolding lists
    read_agrees =
        record {
          alike = alike;
          entry = λ i j h.
              entry-reads e e.model i j nan (has_entry-same _ _ alike i j ∙ h)
              ∙ (here (Entry i j nan) (entry_in d d.model i j nan h)
              ∙ sym (entry-reads d d.model i j nan h));
          td_entry = λ i j h.
              td_reads e e.model i j (five_at [] 0) (has_td_entry-same _ _ alike i j ∙ h)
              ∙ (five (TdEntry i j (five_at [] 0)) (td_in d d.model i j (five_at [] 0) h)
              ∙ sym (td_reads d d.model i j (five_at [] 0) h));
          size = λ i w h.
              size-reads e e.model i w nan (has_size-same _ _ alike i w ∙ h)
              ∙ (here (Size i w nan) (size_in d d.model i w nan h)
              ∙ sym (size-reads d d.model i w nan h));
          count = λ i j h.
              count-reads e e.model i j nan (has_count-same _ _ alike i j ∙ h) eroom
              ∙ (here (Count i j nan) (count_in_lem d d.model i j nan h)
              ∙ sym (count-reads d d.model i j nan h droom));
        }

-- ---- the data that an accepted load leaves in memory and head

start-past : (m : ℕ) (lens : List ℕ) (i : ℕ) → start (lens ++ replicate m 0) i ≡ start lens i
unfolding start
start-past m lens zero = refl
start-past m lens (suc i) = rw (start-past m lens i, get_or_past m 0 lens i)

not_unifac : {A : Type 0} (k : Model) → by_model k true true true false ≡ true → k ≡ Unifac → A
not_unifac k t e = never (sym (rw e at t))

module _ (m : Memory) (d : ModelData) where
  abbrev n : ℕ
  n = d.n

  abbrev ng : ℕ
  ng = d.ng

  abbrev lens : List ℕ
  lens = d.lens

  abbrev groups : List ℕ
  groups = d.groups

  -- what stands in memory and head after a load for the model k
  abbrev left : Model → ModelData
  left k = data_in (loaded_memory m (D d k)) (loaded_head (D d k))

  left-alike : (k : Model) → Alike (held (left k)) (held (D d k))
  unfolding loaded_memory loaded_head model_of lists
  left-alike Wilson = record { model = refl; n = refl; groups = not_unifac Wilson refl }
  left-alike Uniquac = record { model = refl; n = refl; groups = not_unifac Uniquac refl }
  left-alike Nrtl = record { model = refl; n = refl; groups = not_unifac Nrtl refl }
  left-alike Unifac =
      record {
        model = refl;
        n = refl;
        groups = λ e.
            record {
              ng = refl;
              length = λ i h. get_or_past (12 - length lens) 0 lens i;
              group = λ i p h g. rw (start-past (12 - length lens) lens i) (get_or_past (144 - length groups) 0 groups (start lens i + p));
            };
      }

  left_starts : (k : Model) → k ≡ Unifac → (i : ℕ) → start (left k).lens i ≡ start lens i
  unfolding loaded_head
  left_starts Wilson e i = not_unifac Wilson refl e
  left_starts Uniquac e i = not_unifac Uniquac refl e
  left_starts Nrtl e i = not_unifac Nrtl refl e
  left_starts Unifac e i = start-past (12 - length lens) lens i

  left-size : (k : Model) → size_of (left k) ≡ size_of (D d k)
  unfolding loaded_head model_of
  left-size Wilson = refl
  left-size Uniquac = refl
  left-size Nrtl = refl
  left-size Unifac = rw (start-past (12 - length lens) lens n)

  pub left-in_range : (k : Model) → Sound (D d k) → in_range (left k) ≡ true
  unfolding loaded_head model_of in_range
  left-in_range Wilson s = rw (le-leb 1 n s.some, le-leb n 12 s.few)
  left-in_range Uniquac s = rw (le-leb 1 n s.some, le-leb n 12 s.few)
  left-in_range Nrtl s = rw (le-leb 1 n s.some, le-leb n 12 s.few)
  left-in_range Unifac s =
      let l = s.lists refl in
      rw (
        le-leb 1 n s.some,
        le-leb n 12 s.few,
        le-leb 1 ng l.some,
        le-leb ng 32 l.few,
        start-past (12 - length lens) lens n,
        at_all n (λ i. leb (get_or (padded 12 0 lens) i 0) 12) (λ i b. rw (get_or_past (12 - length lens) 0 lens i) (le-leb _ _ (l.short i b))),
        at_all (start lens n) (λ p. ltb (get_or (padded 144 0 groups) p 0) ng) (λ p b. rw (get_or_past (144 - length groups) 0 groups p) (lt-ltb _ _ (l.group p b))),
      )

  pub left-number : (k : Model) → ((loaded_head (D d k)).model ≡ 0 → ⊥) × (is_model (loaded_head (D d k)).model ≡ true)
  unfolding loaded_head
  left-number Wilson = (nought 0, refl)
  left-number Uniquac = (nought 1, refl)
  left-number Nrtl = (nought 2, refl)
  left-number Unifac = (nought 3, refl)

  pub left_unset : (k : Model)
      → ((loaded_head (D d k)).has_t ≡ false) × ((loaded_head (D d k)).has_x ≡ false) × ((loaded_head (D d k)).tolerance ≡ usual_tolerance)
  unfolding loaded_head
  left_unset Wilson = (refl, refl, refl)
  left_unset Uniquac = (refl, refl, refl)
  left_unset Nrtl = (refl, refl, refl)
  left_unset Unifac = (refl, refl, refl)

  pub left-agrees : (k : Model) → Sound (D d k) → Agrees (held (left k)) (held (D d k))
  unfolding loaded_memory
  left-agrees k s =
      read_agrees (left k) (D d k) (left-alike k) (left_starts k)
      (λ p h. get_or-append d.values (drop (length d.values) m.values) nan p (rw s.size h))
      (rw (left-size k, ← s.size, length-append d.values (drop (length d.values) m.values)) (omega arith))
      (rw s.size (omega arith))
