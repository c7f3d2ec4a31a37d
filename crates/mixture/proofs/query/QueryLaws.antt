-- What a query that passes has shown, and a model's refilled cells and value as the answer.
use mathlib.Core.Path.{◌≡◌, sym, ap, ◌∙◌}
use mathlib.Core.Bool.{Bool, not, ◌&&◌, and_assoc}
use mathlib.Core.List.{List}
use Prim.Native.Nat.{ℕ, ◌*◌, ◌/◌, ◌%◌}
use lib.Dec.{ltb, eqb}
use lib.ListN.{get_or}
use lib.Ieee.{Float}
use Rattle.arithmetic.specs.Tables.{at, from}
use Rattle.models.specs.declared.answers.Quantity.{Quantity}
use Rattle.models.specs.Exponentials.{energy, nonrandomness, group_energy}
use Rattle.models.specs.Values.{energies, volumes, rs, qs, alphas, lists, counts_at, group_rs, group_qs}
use Rattle.models.specs.Wilson.{wilson}
use Rattle.models.specs.Uniquac.{uniquac}
use Rattle.models.specs.Nrtl.{nrtl}
use Rattle.models.specs.Unifac.{unifac}
use Rattle.mixture.specs.declared.head.Head.{Head}
use Rattle.models.specs.declared.model.Model.TheVariants.{Wilson, Uniquac, Nrtl, Unifac}
use Rattle.mixture.specs.Answers.{Refused, Value}
use Rattle.mixture.specs.declared.query.Worked.{Worked}
use Rattle.mixture.specs.Holdings.{Held, held, entries, td_entries, sizes}
use Rattle.mixture.specs.Cells.{width, is_cell}
use Rattle.mixture.specs.Memory.{Memory, memory, after}
use Rattle.mixture.specs.Layout.{data_in, cell_at}
use Rattle.models.specs.Model.{model_of, has_groups}
use Rattle.mixture.specs.Calls.{exponential, value_by, stale_at, worked, answered, after_query}
use Rattle.mixture.specs.Faults.{ready_fault, query_fault}
use Rattle.mixture.specs.Steps.Refills.{stale_of, taus_at, groups_at, Asked, Ranged, Solved, Answered}
use Rattle.mixture.proofs.ListLaws.{written_same, how_many-same}
use Rattle.mixture.proofs.BlockLaws.{cell-is}
use Rattle.mixture.proofs.History.RangeLaws.{first-is}
use Rattle.mixture.proofs.CallLaws.{refused, done, Passed, ready_passed}
use Rattle.mixture.proofs.RefillLaws.{among, among_in}

-- ---- a query that passes

pub query_passed : (m : Memory) (h : Head) (q : Quantity) → query_fault m h q ≡ 0 → Passed m h × Asked h.n q m.values m.cells m.marks
unfolding query_fault
query_passed m h q e =
    let f = first-is (ready_fault m h) _ e in
    let p = ready_passed m h f.0 in
    (p, record { few = p.range.few; index = f.1; values = p.long.values; cells = p.long.cells; marks = p.long.marks })

pub head-ranged : (m : Memory) (h : Head) → Passed m h → model_of h.model ≡ Unifac → Ranged h.n h.ng h.lens h.groups
head-ranged m h p e =
    let l = p.range.lists e in
    record { some = p.range.some; few = p.range.few; some_groups = l.some; few_groups = l.few; places = l.places; below = l.below }

-- ---- a model's cells and value are the answer

module _ (m : Memory) (h : Head) (q : Quantity) {c : List Float} {l : List ℕ} {r : Worked} where
  answered_by_lem : Solved (model_of h.model) (width (held (data_in m h))) (exponential (held (data_in m h)) h.t)
      (λ E. value_by (held (data_in m h)) h.t E (at h.x) q) m.cells m.marks c l r → Answered m h q c l r
  unfolding worked stale_at cell_at
  answered_by_lem s =
      record {
        cells = s.refilled.worked ∙ written_same (among (w * w) p) (stale_at m d) f m.cells stale_is;
        marks = s.refilled.marked ∙ written_same (among (w * w) p) (stale_at m d) (λ c. 1) m.marks stale_is;
        value = s.solved;
        count = s.refilled.counted ∙ how_many-same (w * w) p (stale_at m d) (λ c b. sym (among_in (w * w) p c b) ∙ stale_is c);
      }
    where
      d : Held
      d = held (data_in m h)

      w : ℕ
      w = width (held (data_in m h))

      p : ℕ → Bool
      p = stale_of (has_groups (model_of h.model)) w m.marks

      f : ℕ → Float
      f c = exponential (held (data_in m h)) h.t (c / w) (c % w)

      stale_is : (c : ℕ) → among (w * w) p c ≡ stale_at m d c
      stale_is c =
          ap (λ (t : Bool). ltb c (w * w) && (t && not (eqb (get_or m.marks c 0) 1))) (sym (cell-is d (c / w) (c % w)))
          ∙ sym (and_assoc (ltb c (w * w)) (is_cell d (c / w) (c % w)) (not (eqb (get_or m.marks c 0) 1)))

  pub wilson-answered : model_of h.model ≡ Wilson
      → Solved Wilson h.n (energy (energies h.n m.values) h.t) (λ E. wilson h.n (volumes h.n m.values) E (at h.x) q) m.cells m.marks c l r
      → Answered m h q c l r
  unfolding width exponential value_by entries sizes
  wilson-answered e s = answered_by_lem (rw e s)

  pub uniquac-answered : model_of h.model ≡ Uniquac
      → Solved Uniquac h.n (energy (energies h.n m.values) h.t) (λ E. uniquac h.n (rs h.n m.values) (qs h.n m.values) E (at h.x) q) m.cells m.marks c l r
      → Answered m h q c l r
  unfolding width exponential value_by entries sizes
  uniquac-answered e s = answered_by_lem (rw e s)

  pub nrtl-answered : model_of h.model ≡ Nrtl
      → Solved Nrtl h.n (nonrandomness (alphas h.n m.values) (taus_at h.n m.values h.t))
      (λ G. nrtl h.n (taus_at h.n m.values h.t) G (at h.x) q) m.cells m.marks c l r
      → Answered m h q c l r
  unfolding width exponential value_by entries td_entries
  nrtl-answered e s = answered_by_lem (rw e s)

  pub unifac-answered : model_of h.model ≡ Unifac
      → Solved Unifac h.ng (group_energy (groups_at h.ng m.values h.t) h.t)
      (λ Ψ. unifac h.n h.ng (lists h.lens h.groups (from (counts_at h.ng) m.values)) (group_rs h.ng m.values) (group_qs h.ng m.values) Ψ (at h.x) q) m.cells m.marks c l r
      → Answered m h q c l r
  unfolding width exponential value_by td_entries sizes
  unifac-answered e s = answered_by_lem (rw e s)

  -- ---- the equation

  pub query_answered : query_fault m h q ≡ 0 → Answered m h q c l r → after (memory m.values c l) h (Value r.value r.count) ≡ after_query m h q
  unfolding after_query answered worked
  query_answered e a = done m h e (rw (a.value, a.count, a.cells, a.marks))

pub query_refused : (m : Memory) (h : Head) (q : Quantity) {k : ℕ} → k ≡ query_fault m h q → (k ≡ 0 → ⊥) → after m h (Refused k) ≡ after_query m h q
unfolding after_query
query_refused m h q e n = refused m h _ e n
