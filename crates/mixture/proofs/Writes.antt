-- Demand 1, on any memory and with any head: each call is a refusal that leaves all, or writes by place.
use mathlib.Core.Path.{◌≡◌, refl, sym, ◌∙◌, subst}
use mathlib.Core.Bool.{Bool, false, not, ◌&&◌, and-true}
use mathlib.Core.List.{List, ◌++◌}
use mathlib.Core.Logic.{◌⊎◌, inl, inr}
use Prim.Native.Nat.{ℕ, ◌+◌, ◌*◌, ◌-◌, ◌/◌, ◌%◌, ◌<◌, ◌≤◌}
use native.Mathlib.Omega.{arith}
use lib.Dec.{leb, ltb, eqb}
use lib.ListN.{length, drop, length-append, length-drop}
use lib.Seq.{length-sets, get_or-append-add, get_or-drop}
use lib.Ieee.{Float, nan}
use borrow.Author.Tests.{ltb-false, eqb-true, eq-eqb, ne_eqb, le-leb, lt-ltb}
use Rattle.arithmetic.specs.Tables.{at}
use Rattle.arithmetic.proofs.Tests.{either, le-or}
use Rattle.arithmetic.proofs.TableLaws.{cell-lt, cell_row, cell-column}
use Rattle.mixture.specs.declared.head.Head.{Head}
use Rattle.models.specs.declared.model.Model.{Model}
use Rattle.models.specs.declared.model.Model.TheVariants.{Wilson, Uniquac, Nrtl, Unifac}
use Rattle.mixture.specs.Answers.{number_of}
use Rattle.mixture.specs.Holdings.{Held, held}
use Rattle.mixture.specs.Cells.{width, is_cell}
use Rattle.models.specs.Faults.{data_fault}
use Rattle.mixture.specs.Memory.{Memory, After}
use Rattle.mixture.specs.Layout.{data_in, place, numbers, cell_at}
use Rattle.mixture.specs.Calls.{outcome, after_open, loaded_memory, after_load, stales_at, set_memory, after_setting, after_fractions, stale_at, worked, answered, after_query}
use Rattle.mixture.specs.Faults.{memory_fault, load_fault, setting_fault, fractions_fault, query_fault}
use Rattle.mixture.specs.Book.{Open, Load, Set, Fractions, Query}
use Rattle.mixture.specs.History.{after_call}
use Rattle.mixture.specs.Writes.{call_fault, Numbers, Declined, held_by, places, Writes, OnlyThere, DiagonalKept}
use Rattle.mixture.proofs.ListLaws.{length-written, get_or_kept}
use Rattle.mixture.proofs.PlaceLaws.{at_away}
use Rattle.mixture.proofs.History.RangeLaws.{first-is}
use Rattle.mixture.proofs.CallLaws.{load_fits}

-- ---- declined calls

number_is : (k : ℕ) (m : Memory) (h : Head) (a : After) → number_of a.answer ≡ 0 → number_of (outcome k m h a).answer ≡ k
unfolding number_of
number_is k m h a z =
    elim (either (eqb k 0)) [
      | inl t ↦ rw t (z ∙ sym (eqb-true k 0 t))
      | inr t ↦ rw t
    ]

pub numbers-are : Numbers
unfolding after_call after_open after_load after_setting after_fractions after_query answered call_fault number_of
numbers-are m h Open = number_is (memory_fault m) m h _ refl
numbers-are m h (Load d) = number_is (load_fault m d) m h _ refl
numbers-are m h (Set s) = number_is (setting_fault m h s) m h _ refl
numbers-are m h (Fractions x) = number_is (fractions_fault m h x) m h _ refl
numbers-are m h (Query q) = number_is (query_fault m h q) m h _ refl

-- a number other than 0 leaves memory and head
declines : (k : ℕ) (m : Memory) (h : Head) (a : After) → (k ≡ 0 → ⊥) → ((outcome k m h a).memory ≡ m) × ((outcome k m h a).head ≡ h)
declines k m h a n = rw (ne_eqb k 0 n) (refl, refl)

pub declined : Declined
unfolding after_call after_open after_load after_setting after_fractions after_query call_fault
declined m h Open n = declines (memory_fault m) m h _ n
declined m h (Load d) n = declines (load_fault m d) m h _ n
declined m h (Set s) n = declines (setting_fault m h s) m h _ n
declined m h (Fractions x) n = declines (fractions_fault m h x) m h _ n
declined m h (Query q) n = declines (query_fault m h q) m h _ n

-- ---- the places that are kept

module _ (value cell mark : ℕ → Bool) (m : Memory) (h : Head) where
  -- nothing is written
  still : Writes value cell mark m m
  still = record { values = λ k p. refl; cells = λ c p. refl; marks = λ c p. refl; lengths = (refl, refl, refl) }

  writes_by : (k : ℕ) (a : After) → (k ≡ 0 → Writes value cell mark m a.memory) → Writes value cell mark m (outcome k m h a).memory
  writes_by k a f =
      elim (either (eqb k 0)) [
        | inl t ↦ rw t (f (eqb-true k 0 t))
        | inr t ↦ rw t still
      ]

-- past the load's values
past : (v l : List Float) (k : ℕ) → length v ≤ k → at (v ++ drop (length v) l) k ≡ at l k
past v l k h =
    let e : length v + (k - length v) ≡ k = omega arith in
    subst (λ (p : ℕ). at (v ++ drop (length v) l) p ≡ at l p) e (get_or-append-add v (drop (length v) l) (k - length v) nan ∙ get_or-drop (length v) l (k - length v) nan)

outside : (p n k : ℕ) → (leb p k && ltb k (p + n)) ≡ false → (k < p) ⊎ (p + n ≤ k)
outside p n k h =
    elim (le-or p k) [
      | inl a ↦ inr (ltb-false k (p + n) (rw (le-leb p k a) at h))
      | inr a ↦ inl a
    ]

pub only_there : OnlyThere
unfolding load_fault after_call after_open after_load loaded_memory after_setting set_memory stales_at after_fractions after_query answered worked stale_at places
only_there m h Open = writes_by _ _ _ m h (memory_fault m) _ (λ z. still _ _ _ m h)
only_there m h (Load d) =
    writes_by _ _ _ m h (load_fault m d) _
    (λ z.
    record {
      values = λ k p. past d.values m.values k (ltb-false k (length d.values) p);
      cells = λ c p. refl;
      marks = λ c p. get_or_kept (cell_at (held d)) (λ c. 0) m.marks c 0 (sym (and-true (cell_at (held d) c)) ∙ p);
      lengths = (
        rw (length-append d.values (drop (length d.values) m.values), length-drop (length d.values) m.values) (omega (arith, let f = first-is (memory_fault m) (data_fault d) z in (load_fits m d f.0 f.1).values)),
        refl,
        length-written (cell_at (held d)) (λ c. 0) m.marks,
      );
    })
only_there m h (Set s) =
    writes_by _ _ _ m h (setting_fault m h s) _
    (λ z.
    record {
      values = λ k p. at_away m.values (place (data_in m h) s) (numbers s) k (outside (place (data_in m h) s) (length (numbers s)) k p);
      cells = λ c p. refl;
      marks = λ c p. get_or_kept (stales_at (held (data_in m h)) s) (λ c. 0) m.marks c 0 p;
      lengths = (length-sets m.values (place (data_in m h) s) (numbers s), refl, length-written (stales_at (held (data_in m h)) s) (λ c. 0) m.marks);
    })
only_there m h (Fractions x) = writes_by _ _ _ m h (fractions_fault m h x) _ (λ z. still _ _ _ m h)
only_there m h (Query q) =
    writes_by _ _ _ m h (query_fault m h q) _
    (λ z.
    record {
      values = λ k p. refl;
      cells = λ c p. get_or_kept (stale_at m (held (data_in m h))) _ m.cells c nan p;
      marks = λ c p. get_or_kept (stale_at m (held (data_in m h))) (λ c. 1) m.marks c 0 p;
      lengths = (refl, length-written (stale_at m (held (data_in m h))) _ m.cells, length-written (stale_at m (held (data_in m h))) (λ c. 1) m.marks);
    })

-- ---- the diagonal

-- i, i is no cell of Wilson, UNIQUAC and NRTL
no_cell : (d : Held) (i : ℕ) → (d.model ≡ Unifac → ⊥) → i < d.n → cell_at d (i * d.n + i) ≡ false
unfolding cell_at width is_cell
no_cell d i u h = go d.model refl
  where
    own : (ltb (i * d.n + i) (d.n * d.n) && not (eqb ((i * d.n + i) / d.n) ((i * d.n + i) % d.n))) ≡ false
    own = rw (lt-ltb _ _ (cell-lt d.n d.n i i h h), cell_row d.n i i h, cell-column d.n i i h, eq-eqb i i refl)

    go : (k : Model) → d.model ≡ k → cell_at d (i * d.n + i) ≡ false
    go Wilson e = rw e own
    go Uniquac e = rw e own
    go Nrtl e = rw e own
    go Unifac e = absurd (u e)

pub diagonal_kept : DiagonalKept
diagonal_kept m h c i u b =
    let p = i * (held_by m h c).n + i in
    let w = only_there m h c in
    (w.cells p (rw (no_cell (held_by m h c) i u b)), w.marks p (rw (no_cell (held_by m h c) i u b)))
