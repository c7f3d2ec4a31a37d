-- A walk along the strip: the text from a place on, by the memory and the head; from the opening on it is the book's, by the
-- history theorem.
use Prim.Native.Nat.{ℕ, zero, suc, ◌+◌, ◌-◌, ◌<◌, ◌≤◌}
use native.Mathlib.Nat.{zero-add}
use native.Mathlib.Omega.{arith}
use mathlib.Core.Path.{◌≡◌, refl, sym, ap, ◌∙◌}
use mathlib.Core.Bool.{false, cond}
use mathlib.Core.List.{List, [], ◌∷◌, ◌++◌, append_assoc}
use lib.Dec.{ltb}
use lib.ListN.{length, length-append}
use lib.Seq.{sets}
use borrow.Author.Tests.{lt-ltb, le-ltb}
use Rattle.mixture.specs.Answers.{Answer}
use Rattle.mixture.specs.declared.head.Head.{Head}
use Rattle.mixture.specs.Memory.{Memory, is_short, After}
use Rattle.mixture.specs.Calls.{after_open}
use Rattle.mixture.specs.Book.{Call, empty, book_answers}
use Rattle.mixture.specs.History.{after_call, answers}
use Rattle.mixture.proofs.History.History.{history}
use Rattle.strip.specs.Words.{most_bytes}
use Rattle.strip.specs.Records.{Rec, Read, Record, Broken, End, read_at}
use Rattle.strip.specs.Calls.{call_of}
use Rattle.strip.specs.Text.{line, broken, Put}
use Rattle.strip.specs.Run.{Script, script, script_by, script_from, script_of, lines, transcript}
use Rattle.strip.specs.Steps.Run.{rest, walked}
use Rattle.strip.proofs.TextLaws.{sets-append, put_same}
use Rattle.strip.proofs.RecordLaws.{read_end, found, later, read_in}

-- ---- more turns than bytes change nothing

script-past : (s : List ℕ) (k p : ℕ) → length s ≤ p → script_from s k p ≡ script [] []
unfolding script_from
script-past s zero p h = refl
script-past s (suc k) p h = rw (← read_end s p h)

script_enough : (s : List ℕ) (k j p : ℕ) → length s ≤ p + k → length s ≤ p + j → script_from s k p ≡ script_from s j p
unfolding script_from
script_enough s zero j p h g = sym (script-past s j p (omega arith))
script_enough s (suc k) zero p h g = script-past s (suc k) p (omega arith)
script_enough s (suc k) (suc j) p h g = go (script_enough s k j) (read_at s p) refl
  where
    go : ((q : ℕ) → length s ≤ q + k → length s ≤ q + j → script_from s k q ≡ script_from s j q) → (d : Read) → read_at s p ≡ d
        → script_by s d (script_from s k) ≡ script_by s d (script_from s j)
    go f (Record r) e =
        let l = later s p r e in
        ap (λ (z : Script). script (call_of s r ∷ z.calls) z.ending) (f r.next (omega arith) (omega arith))
    go f Broken e = refl
    go f End e = refl

-- ---- the text from p on

-- after a call: its line, and the text from the next record on
abbrev told : List ℕ → ℕ → After → List ℕ
told s p a = line a.answer ++ rest s p a.memory a.head

script_record : (s : List ℕ) (p : ℕ) (r : Rec) → read_at s p ≡ Record r
    → script_from s (length s - p) p ≡ script (call_of s r ∷ (script_from s (length s - r.next) r.next).calls) (script_from s (length s - r.next) r.next).ending
unfolding script_from
script_record s p r e =
    let f = found s p r e in
    let l = later s p r e in
    script_enough s (length s - p) (suc (length s - p - 1)) p (omega arith) (omega arith)
    ∙ rw e
    (ap (λ (z : Script). script (call_of s r ∷ z.calls) z.ending)
    (script_enough s (length s - p - 1) (length s - r.next) r.next (omega arith) (omega arith)))

rest_record : (s : List ℕ) (p : ℕ) (m : Memory) (h : Head) (r : Rec) → read_at s p ≡ Record r → rest s p m h ≡ told s r.next (after_call m h (call_of s r))
unfolding rest answers lines
rest_record s p m h r e =
    let a = after_call m h (call_of s r) in
    rw (script_record s p r e)
    (append_assoc (line a.answer) (lines (answers a.memory a.head (script_from s (length s - r.next) r.next).calls)) (script_from s (length s - r.next) r.next).ending)

rest_end : (s : List ℕ) (p : ℕ) (m : Memory) (h : Head) → length s ≤ p → rest s p m h ≡ []
unfolding rest answers lines
rest_end s p m h l = rw (script-past s (length s - p) p l)

rest-broken : (s : List ℕ) (p : ℕ) (m : Memory) (h : Head) → read_at s p ≡ Broken → rest s p m h ≡ broken
unfolding rest answers lines script_from
rest-broken s p m h e =
    let l = read_in s p e in
    rw (script_enough s (length s - p) (suc (length s - p - 1)) p (omega arith) (omega arith), e)

-- ---- a turn of the walk

-- what is stored and what is left make the whole text
pub record Walked (s : List ℕ) (out₀ : List ℕ) (text : List ℕ) (at : ℕ) (m : Memory) (h : Head) (pos : ℕ) (out : List ℕ) : Type 0 where
  pub same : sets out pos (rest s at m h) ≡ sets out₀ 0 text
  pub long : pos + length (rest s at m h) ≡ length text

pub walk_starts : (s out₀ : List ℕ) (m : Memory) (h : Head) → Walked s out₀ (rest s 0 m h) 0 m h 0 out₀
walk_starts s out₀ m h = record { same = refl; long = zero-add _ }

module _ {s out₀ text : List ℕ} {at : ℕ} {m : Memory} {h : Head} {pos : ℕ} {out : List ℕ} (w : Walked s out₀ text at m h pos out) where
  pub walk_turn : {r : Rec} → read_at s at ≡ Record r → {a : After} → a ≡ after_call m h (call_of s r)
      → {k : ℕ} {out' : List ℕ} → Put out pos (line a.answer) k out' → Walked s out₀ text r.next a.memory a.head (pos + k) out'
  walk_turn {r} e {a} q p =
      let t : rest s at m h ≡ told s r.next a = rest_record s at m h r e ∙ ap (told s r.next) (sym q) in
      record {
        same = rw (p.text, p.long) (sym (sets-append out pos (line a.answer) _) ∙ (ap (λ (z : List ℕ). sets out pos z) (sym t) ∙ w.same));
        long = omega (arith, p.long, w.long, ap length t, length-append (line a.answer) (rest s r.next a.memory a.head));
      }

  pub walk_ends : length s ≤ at → Put out₀ 0 text pos out
  walk_ends l =
      record {
        long = omega (arith, w.long, ap length (rest_end s at m h l));
        text = (rw (rest_end s at m h l) at w.same);
      }

  pub walk_breaks : read_at s at ≡ Broken → {k : ℕ} {out' : List ℕ} → Put out pos broken k out' → Put out₀ 0 text (pos + k) out'
  walk_breaks e p =
      record {
        long = omega (arith, p.long, w.long, ap length (rest-broken s at m h e));
        text = p.text ∙ (rw (rest-broken s at m h e) at w.same);
      }

-- ---- the whole text

tail : List Answer → List Answer
tail [] = []
tail (a ∷ l) = l

opened : (m : Memory) (h : Head) (a : After) → a ≡ after_open m h → is_short m ≡ false → (cs : List Call) → answers a.memory a.head cs ≡ book_answers empty [] cs
unfolding answers after_call tail
opened m h a e g cs = ap (λ (z : After). answers z.memory z.head cs) e ∙ ap tail (history m h cs g)

rest-opened : (s : List ℕ) (m : Memory) (h : Head) (a : After) → a ≡ after_open m h → is_short m ≡ false
    → rest s 0 a.memory a.head ≡ lines (book_answers empty [] (script_of s).calls) ++ (script_of s).ending
unfolding rest script_of
rest-opened s m h a e g =
    let z : length s - 0 ≡ length s = omega arith in
    rw (z, opened m h a e g (script_from s (length s) 0).calls)

pub walked-long : (s : List ℕ) (m : Memory) (h : Head) {l l' : List ℕ} {r : ℕ} → most_bytes < length s → Put l 0 broken r l' → Put l 0 (walked s m h) r l'
unfolding walked
walked-long s m h n p = rw (lt-ltb most_bytes (length s) n) p

pub walked-short : (s : List ℕ) (m : Memory) (h : Head) {l l' : List ℕ} {r : ℕ} → length s ≤ most_bytes → Put l 0 (rest s 0 m h) r l' → Put l 0 (walked s m h) r l'
unfolding walked
walked-short s m h n p = rw (le-ltb most_bytes (length s) n) p

pub run_opened : (s : List ℕ) (m : Memory) (h : Head) (a : After) {l l' : List ℕ} {r : ℕ} → a ≡ after_open m h → is_short m ≡ false
    → Put l 0 (walked s a.memory a.head) r l' → Put l 0 (transcript s) r l'
unfolding walked transcript
run_opened s m h a e g p = put_same p (ap (cond (ltb most_bytes (length s)) broken) (rest-opened s m h a e g))
