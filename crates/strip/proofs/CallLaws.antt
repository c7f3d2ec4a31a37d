-- The call that a record makes.
use Prim.Native.Nat.{ℕ, ◌+◌, ◌*◌, ◌-◌, ◌<◌, ◌≤◌}
use native.Mathlib.Nat.{zero-add}
use native.Mathlib.Omega.{arith}
use mathlib.Core.Path.{◌≡◌, refl, sym, ap, ◌∙◌, subst}
use mathlib.Core.Bool.{Bool, true, false, cond}
use mathlib.Core.List.{List, ◌++◌}
use lib.Dec.{eqb}
use lib.ListN.{length, take, drop, length-append, length-take, length-drop}
use lib.Seq.{sets, get_or-take, length-sets, length-take-le, take-add, take_at, drop_at, take-append-le}
use lib.Ieee.{Float, nan}
use borrow.Author.Tests.{le-ltb, ne_eqb, eqb-true}
use borrow.Rule.Slice.PartMut.{put_mid, post_of}
use Rattle.arithmetic.specs.declared.parameters.TdParam.{TdParam}
use Rattle.models.specs.Values.{five_at}
use Rattle.models.specs.declared.answers.Quantity.{Quantity}
use Rattle.models.specs.Answers.{quantity_of}
use Rattle.mixture.specs.declared.head.Head.{Head}
use Rattle.models.specs.declared.model.Model.{Model}
use Rattle.models.specs.declared.model.Model.TheVariants.{Wilson, Uniquac, Nrtl, Unifac}
use Rattle.mixture.specs.declared.setting.Setting.{Setting}
use Rattle.mixture.specs.declared.setting.Setting.TheVariants.{Temperature, Entry, TdEntry, Size, Count}
use Rattle.std.specs.Prelude.{Err}
use Rattle.arithmetic.specs.declared.refusal.Refusal.TheVariants.{Shape}
use Rattle.arithmetic.specs.Refusals.{number}
use Rattle.mixture.specs.Answers.{answer_of}
use Rattle.mixture.specs.Memory.{Memory, After, after}
use Rattle.models.specs.Model.{model_of, model_number, model_data}
use Rattle.mixture.specs.Book.{Call, Load, Set, Fractions, Query}
use Rattle.mixture.specs.Calls.{after_load, after_setting, after_fractions, after_query}
use Rattle.mixture.specs.History.{after_call}
use Rattle.strip.specs.declared.lists.Met.{Met}
use Rattle.strip.specs.Words.{most_bytes}
use Rattle.strip.specs.Records.{Rec, Record, read_at}
use Rattle.strip.specs.Calls.{floats_of, lists_of, data_of, setting_of, call_of}
use Rattle.strip.specs.Steps.Run.{Stored, fits, made}
use Rattle.strip.proofs.TextLaws.{sets-whole}
use Rattle.strip.proofs.GroupListLaws.{lists-few}
use Rattle.strip.proofs.KindLaws.{SettingNumber}
use Rattle.strip.proofs.RecordLaws.{Fitting, found-fits}

-- ---- a record's call, where it fits or not

-- a run meets records that fit
pub found_call : (s : List ℕ) (p : ℕ) {r : Rec} (m : Memory) (h : Head) {x : After} (c : Call) → length s ≤ most_bytes → read_at s p ≡ Record r
    → x ≡ made s r m h c → x ≡ after_call m h c
unfolding made
found_call s p {r} m h c l e q = q ∙ rw (found-fits s p r l e)

pub made_none : (s : List ℕ) (r : Rec) (m : Memory) (h : Head) (c : Call) → fits s r ≡ false → after m h (answer_of (Err Shape)) ≡ made s r m h c
unfolding made answer_of number
made_none s r m h c f = rw f

pub made_call : (s : List ℕ) (r : Rec) (m : Memory) (h : Head) {x : After} (c : Call) → fits s r ≡ true → x ≡ after_call m h c → x ≡ made s r m h c
unfolding made
made_call s r m h c f e = rw f e

-- ---- the call of each kind

pub by_load : (s : List ℕ) (r : Rec) (m : Model) → r.kind ≡ model_number m → call_of s r ≡ Load (data_of s r)
unfolding call_of
by_load s r Wilson e = rw e
by_load s r Uniquac e = rw e
by_load s r Nrtl e = rw e
by_load s r Unifac e = rw e

pub by_set : (s : List ℕ) (r : Rec) → SettingNumber r.kind → call_of s r ≡ Set (setting_of r.kind r.i r.j (five_at (floats_of s r) 0))
unfolding call_of
by_set s r n = rw (le-ltb r.kind 5 n.above, ne_eqb r.kind 6 n.no_fractions, ne_eqb r.kind 11 n.no_query)

pub by_fractions : (s : List ℕ) (r : Rec) → r.kind ≡ 6 → call_of s r ≡ Fractions (floats_of s r)
unfolding call_of
by_fractions s r e = rw e

pub by_query : (s : List ℕ) (r : Rec) → r.kind ≡ 11 → call_of s r ≡ Query (quantity_of r.j r.i)
unfolding call_of
by_query s r e = rw e

-- ---- a load

-- its buffers have room for its lists and groups, and for their counts after its floats
pub record Room (r : Rec) (met : Met) (ls gs : List ℕ) (a : List Float) : Type 0 where
  pub lists : met.lists ≤ length ls
  pub groups : met.groups ≤ length gs
  pub counts : met.groups ≤ length a
  pub floats : r.floats + met.groups ≤ 8192

pub has_room : {s : List ℕ} {r : Rec} → Fitting s r → r.i < 256 → {ls gs ls' gs' : List ℕ} {a a' : List Float} {met : Met} → Stored (lists_of s r) met ls gs a ls' gs' a'
    → length ls' ≡ 256 → length gs' ≡ 5461 → (g : List Float) → length g ≡ 8192
    → length a' ≡ length (take (8192 - r.floats) (drop r.floats g)) → Room r met ls' gs' a'
has_room {s} {r} w i l u v g z y =
    let f = lists-few s r.lists in
    let n = f.lens (r.body + 8 * r.floats) in
    let m = f.groups (r.body + 8 * r.floats) w.floats in
    record {
      lists = omega (arith, l.lists, n, w.sized.lists, i, u);
      groups = omega (arith, l.groups, m, w.short, v);
      counts = omega (arith, l.groups, m, w.short, y, length-take (8192 - r.floats) (drop r.floats g), length-drop r.floats g, z);
      floats = omega (arith, l.groups, m, w.short);
    }

stored-whole : {A : Type 0} {n : ℕ} (t l l' : List A) → n ≡ length t → l' ≡ sets l 0 t → n ≤ length l' → take n l' ≡ t
stored-whole {A} {n} t l l' e f h =
    let q : length l' ≡ length l = ap length f ∙ length-sets l 0 t in
    rw f (subst (λ (z : ℕ). take z (sets l 0 t) ≡ t) (zero-add n) (sets-whole A l 0 t n e (omega arith)))

-- floats, and then the counts that were stored after them
joined : (k m w : ℕ) (g a : List Float) → k ≤ length g → m ≤ length a → take (k + m) (put_mid k w g a) ≡ take k g ++ take m a
joined k m w g a h l =
    let n = length-take-le k g h in
    take-add k m (put_mid k w g a)
    ∙ rw (take_at (take k g) (a ++ post_of k w g) k n, drop_at (take k g) (a ++ post_of k w g) k n, take-append-le m a (post_of k w g) l)

-- both lie within a buffer
pub within : (k m w : ℕ) (g a : List Float) → k ≤ length g → m ≤ length a → k + m ≤ length (put_mid k w g a)
within k m w g a h l = omega (arith, length-append (take k g) (a ++ post_of k w g), length-append a (post_of k w g), length-take-le k g h)

model_back : (m : Model) → model_of (model_number m) ≡ m
unfolding model_of
model_back Wilson = refl
model_back Uniquac = refl
model_back Nrtl = refl
model_back Unifac = refl

-- the buffers of a load hold the definition's lists and floats
pub load_is : (s : List ℕ) (r : Rec) (m : Memory) (h : Head) {x : After} (k : Model) (w : ℕ) (g : List Float) {met : Met} {ls gs ls' gs' : List ℕ} {a a' : List Float}
    → x ≡ after_load m h (model_data k r.i r.j (take met.lists ls') (take met.groups gs') (take (r.floats + met.groups) (put_mid r.floats w g a')))
    → r.kind ≡ model_number k → r.floats ≤ length g → take r.floats g ≡ floats_of s r → Stored (lists_of s r) met ls gs a ls' gs' a' → Room r met ls' gs' a'
    → x ≡ after_call m h (call_of s r)
unfolding after_call
load_is s r m h k w g {met} {ls} {gs} {ls'} {gs'} {a} {a'} e q y t l o =
    let p = lists_of s r in
    let c = (lists-few s r.lists).counts (r.body + 8 * r.floats) in
    let f : model_of r.kind ≡ k = ap model_of q ∙ model_back k in
    rw (by_load s r k q, f)
    (e ∙ rw (joined r.floats met.groups w g a' y o.counts, stored-whole p.lens ls ls' l.lists l.lengths o.lists, stored-whole p.groups gs gs' l.groups l.members o.groups, stored-whole p.counts a a' (l.groups ∙ sym c) l.numbers o.counts, t))

-- ---- a setting

-- the first float, and a td entry's five
first-is : (n : ℕ) (l : List Float) → 0 < n → (five_at l 0).a ≡ (five_at (take n l) 0).a
unfolding five_at
first-is n l h = rw (get_or-take n l 0 nan h)

five-is : (n : ℕ) (l : List Float) → 5 ≤ n → five_at l 0 ≡ five_at (take n l) 0
unfolding five_at
five-is n l h = rw (get_or-take n l 0 nan (omega arith), get_or-take n l 1 nan (omega arith), get_or-take n l 2 nan (omega arith), get_or-take n l 3 nan (omega arith), get_or-take n l 4 nan (omega arith))

arm : (t : Bool) (a b c : Setting) → (t ≡ true → a ≡ b) → cond t a c ≡ cond t b c
arm true a b c e = e refl
arm false a b c e = refl

-- a setting looks at its first float, a td entry at all five
same-setting : (kind i j : ℕ) {f g : TdParam} → f.a ≡ g.a → (kind ≡ 8 → f ≡ g) → setting_of kind i j f ≡ setting_of kind i j g
unfolding setting_of
same-setting kind i j {f} {g} first five =
    ap (λ (a : Float). cond (eqb kind 5) (Temperature a) (cond (eqb kind 7) (Entry i j a) (cond (eqb kind 8) (TdEntry i j f) (cond (eqb kind 9) (Size i j a) (Count i j a))))) first
    ∙ ap (λ (z : Setting). cond (eqb kind 5) (Temperature g.a) (cond (eqb kind 7) (Entry i j g.a) z)) (arm (eqb kind 8) _ _ _ (λ t. ap (TdEntry i j) (five (eqb-true kind 8 t))))

-- the buffer of a setting holds the definition's floats
pub set_is : {s : List ℕ} {r : Rec} (m : Memory) (h : Head) {x : After} {q : Setting} {p : TdParam} (g : List Float) → Fitting s r → SettingNumber r.kind
    → x ≡ after_setting m h q → q ≡ setting_of r.kind r.i r.j p → p ≡ five_at g 0 → take r.floats g ≡ floats_of s r → x ≡ after_call m h (call_of s r)
unfolding after_call
set_is {s} {r} m h {q = q} {p} g w n e f t y =
    let z = same-setting r.kind r.i r.j (first-is r.floats g (w.sized.some n.above n.no_fractions n.no_query refl) ∙ ap (λ (z : List Float). (five_at z 0).a) y)
    (λ k. five-is r.floats g (w.sized.five k refl) ∙ ap (λ (z : List Float). five_at z 0) y) in
    rw (by_set s r n, ← z, ← t, ← f) e

-- ---- fractions and a query

pub fractions_is : (s : List ℕ) (r : Rec) (m : Memory) (h : Head) {x : After} {g : List Float} → r.kind ≡ 6 → x ≡ after_fractions m h g → g ≡ floats_of s r → x ≡ after_call m h (call_of s r)
unfolding after_call
fractions_is s r m h k e y = rw (by_fractions s r k, ← y) e

pub query_is : (s : List ℕ) (r : Rec) (m : Memory) (h : Head) {x : After} {q : Quantity} → r.kind ≡ 11 → x ≡ after_query m h q → q ≡ quantity_of r.j r.i → x ≡ after_call m h (call_of s r)
unfolding after_call
query_is s r m h k e y = rw (by_query s r k, ← y) e
