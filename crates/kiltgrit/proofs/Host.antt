-- Demand 3 for a host in C: a head that C hands on is the head that the mixture gave, so the mixture's own history theorem holds of it.
use mathlib.Core.Path.{◌≡◌, refl, ap, ◌∙◌}
use mathlib.Core.List.{List, [], ◌∷◌, map}
use mathlib.Core.Logic.{inl, inr}
use Prim.Native.Nat.{ℕ}
use lib.Dec.{eqb}
use Rattle.arithmetic.proofs.Tests.{either}
use Rattle.models.specs.declared.answers.Quantity.{Quantity}
use Rattle.mixture.specs.declared.head.Head.{Head}
use Rattle.mixture.specs.Answers.{Done, number_of, value_of}
use Rattle.mixture.specs.Memory.{Memory, After, after}
use Rattle.mixture.specs.Layout.{data_in}
use Rattle.mixture.specs.Calls.{outcome, no_head, loaded_head, loaded_memory, set_memory, set_head, with_fractions, answered as answered_by, after_open, after_load, after_setting, after_fractions, after_query}
use Rattle.mixture.specs.Faults.{memory_fault, load_fault, setting_fault, fractions_fault, query_fault}
use Rattle.mixture.specs.History.{after_call, answers}
use Rattle.mixture.proofs.History.History.{history}
use Rattle.kiltgrit.specs.declared.border.CHead.{CHead}
use Rattle.kiltgrit.specs.declared.border.CAnswer.{CAnswer}
use Rattle.kiltgrit.specs.Border.{head_of, count_of, reply_of, answer_of, replied}
use Rattle.kiltgrit.specs.Arguments.{load_of, setting_of, quantity_asked}
use Rattle.kiltgrit.specs.Host.{Call, Open, Load, Set, Fractions, Query, call_of, Host, taken, host_after, host_told, HostHistory}
use Rattle.kiltgrit.proofs.Laws.{head_crosses}

-- what the host has is what the mixture's call leaves
record Follows (s : Host) (a : After) : Type 0 where
  memory : s.memory ≡ a.memory
  head : head_of s.head ≡ a.head
  told : s.told ≡ answer_of a.answer

-- a call that gives the head back: refused, the one that came; done, the one that it leaves
follows-outcome : (m n : Memory) (c : CHead) (f : ℕ) (h : Head)
    → Follows (taken (replied c (outcome f m (head_of c) (after n h Done)))) (outcome f m (head_of c) (after n h Done))
unfolding reply_of answer_of value_of count_of number_of
follows-outcome m n c f h =
    elim (either (eqb f 0)) [
      | inl t ↦ rw t (record { memory = refl; head = head_crosses h; told = refl })
      | inr t ↦ rw t (rw t (record { memory = refl; head = refl; told = refl }))
    ]

-- a query leaves the head
pub query_keeps : (m : Memory) (h : Head) (q : Quantity) → h ≡ (after_query m h q).head
unfolding after_query answered_by
query_keeps m h q =
    elim (either (eqb (query_fault m h q) 0)) [
      | inl t ↦ rw t refl
      | inr t ↦ rw t refl
    ]

follows : (m : Memory) (c : CHead) (k : Call) → Follows (host_after m c k) (after_call m (head_of c) (call_of k))
unfolding host_after after_call call_of after_open after_load after_setting after_fractions
follows m c Open = follows-outcome m m c (memory_fault m) no_head
follows m c (Load model form n ng lens groups given) =
    let d = load_of model form n ng lens groups given in
    follows-outcome m (loaded_memory m d) c (load_fault m d) (loaded_head d)
follows m c (Set s) =
    follows-outcome m (set_memory m (data_in m (head_of c)) (setting_of s)) c (setting_fault m (head_of c) (setting_of s)) (set_head (head_of c) (setting_of s))
follows m c (Fractions x) = follows-outcome m m c (fractions_fault m (head_of c) x) (with_fractions (head_of c) x)
follows m c (Query k i) = record { memory = refl; head = query_keeps m (head_of c) (quantity_asked k i); told = refl }

told-all : (ks : List Call) (m : Memory) (c : CHead) {n : Memory} {h : Head} → m ≡ n → head_of c ≡ h → host_told m c ks ≡ map answer_of (answers n h (map call_of ks))
unfolding host_told answers
told-all [] m c p q = refl
told-all (k ∷ ks) m c {n} {h} p q =
    let s = follows m c k in
    rw (← p, ← q, s.told)
    (ap (λ (z : List CAnswer). answer_of (after_call m (head_of c) (call_of k)).answer ∷ z)
    (told-all ks _ _ s.memory s.head))

pub host_history : HostHistory
unfolding call_of
host_history m c ks s = told-all (Open ∷ ks) m c refl refl ∙ ap (map answer_of) (history m (head_of c) (map call_of ks) s)
