-- What the inner functions of a run say. No contract of `run` or of an exported call speaks of it.
use Rattle.std.specs.Prelude.{ℕ, ◌+◌, ◌*◌, ◌-◌, ◌≡◌, ◌≢◌, ◌≤◌, ◌<◌, Bool, true, false, ◌&&◌, cond, List, ◌++◌, leb, ltb, eqb, length, Float, Option, Some, None, Result, Ok, Err}
use Rattle.std.proofs.lemmas.List.Edits.{sets}
use Rattle.models.specs.Model.{model_number}
use Rattle.mixture.specs.declared.head.Head.{Head}
use Rattle.mixture.specs.Answers.{Refused}
use Rattle.mixture.specs.Memory.{Memory, After, memory, after}
use Rattle.mixture.specs.Book.{Call}
use Rattle.mixture.specs.History.{after_call, answers}
use Rattle.strip.specs.declared.calls.Mixture.{Mixture}
use Rattle.strip.specs.declared.kinds.Kind.{Kind}
use Rattle.strip.specs.declared.kinds.Kind.TheVariants.{Load, Set, Fractions, Query}
use Rattle.strip.specs.declared.kinds.SettingKind.{SettingKind}
use Rattle.strip.specs.declared.kinds.SettingKind.TheVariants.{Temperature, Entry, TdEntry, Size, Count}
use Rattle.strip.specs.declared.kinds.Content.{Content}
use Rattle.strip.specs.declared.lists.Walk.{Walk}
use Rattle.strip.specs.declared.lists.Part.{Part}
use Rattle.strip.specs.declared.lists.Part.TheVariants.{ListOf, Group}
use Rattle.strip.specs.declared.lists.Met.{Met}
use Rattle.strip.specs.declared.records.Record.{Record as Found}
use Rattle.strip.specs.declared.words.Broken.{Broken as IsBroken}
use Rattle.strip.specs.Words.{most_bytes}
use Rattle.strip.specs.GroupLists.{Lists, no_lists, missing, with_pair, with_list, pairs_at, lists_at}
use Rattle.strip.specs.Records.{Shape, Rec, Read, Record, Broken, End, shape, shape_of}
use Rattle.strip.specs.Text.{broken}
use Rattle.strip.specs.Run.{script_from, lines}

-- ---- kinds

abbrev pub setting_number : SettingKind → ℕ
setting_number Temperature = 5
setting_number Entry = 7
setting_number TdEntry = 8
setting_number Size = 9
setting_number Count = 10

abbrev pub kind_number : Kind → ℕ
kind_number (Load m) = model_number m
kind_number (Set k) = setting_number k
kind_number Fractions = 6
kind_number Query = 11

abbrev pub NamesSetting : ℕ → Result SettingKind IsBroken → Type 0
NamesSetting n (Ok k) = setting_number k ≡ n
NamesSetting n (Err e) = (n ≢ 5) × (n ≢ 7) × (n ≢ 8) × (n ≢ 9) × (n ≢ 10)

-- a record begins with these numbers alone
abbrev pub NamesKind : ℕ → Result Kind IsBroken → Type 0
NamesKind n (Ok k) = kind_number k ≡ n
NamesKind n (Err e) = 1 ≤ n → 11 < n

-- what follows a head word, where i and j are as the kind has them
abbrev pub HasContent : ℕ → ℕ → ℕ → Option Content → Type 0
HasContent kind i j (Some c) = (shape_of kind i j ≡ shape true c.floats c.lists) × (c.floats ≤ 400000)
HasContent kind i j None = (shape_of kind i j).formed ≡ false

-- ---- group lists

-- what a walk has still to read: of a list that was begun, and of those after it
abbrev pub ahead : List ℕ → ℕ → ℕ → ℕ → Lists
ahead s left pairs p = pairs_at s pairs (lists_at s left) p

abbrev pub ahead_of : List ℕ → Walk → Lists
ahead_of s w = ahead s w.lists w.groups w.place

-- a step of a walk takes the first of these, and none where a word is missing
abbrev pub Stepped : List ℕ → Walk → Walk → Result (Option Part) IsBroken → Type 0
Stepped s w w' (Ok (Some (ListOf v))) = (ahead_of s w ≡ with_list v (ahead_of s w')) × (w'.place ≡ w.place + 4) × (w'.place ≤ length s)
Stepped s w w' (Ok (Some (Group g v))) = (ahead_of s w ≡ with_pair g v (ahead_of s w')) × (w'.place ≡ w.place + 12) × (w'.place ≤ length s)
Stepped s w w' (Ok None) = (ahead_of s w ≡ no_lists w.place) × (w' ≡ w)
Stepped s w w' (Err e) = ahead_of s w ≡ missing

-- where lists end that begin at p
abbrev pub EndsAt : Lists → ℕ → Result ℕ IsBroken → Type 0
EndsAt l p (Ok e) = (l.end ≡ e) × (p ≤ e)
EndsAt l p (Err x) = l.end ≡ 0

-- the lists l stored from the start of three buffers on, as far as there is room
pub record Stored (l : Lists) (met : Met) (ls gs : List ℕ) (a : List Float) (ls' gs' : List ℕ) (a' : List Float) : Type 0 where
  pub lists : met.lists ≡ length l.lens
  pub groups : met.groups ≡ length l.groups
  pub lengths : ls' ≡ sets ls 0 l.lens
  pub members : gs' ≡ sets gs 0 l.groups
  pub numbers : a' ≡ sets a 0 l.counts

-- ---- records

abbrev pub rec_of : Found → Rec
rec_of r =
    record {
      kind = kind_number r.kind;
      i = r.i;
      j = r.j;
      floats = r.content.floats;
      lists = r.content.lists;
      body = r.body;
      next = r.next;
    }

abbrev pub read_of : Result (Option Found) IsBroken → Read
read_of (Ok (Some r)) = Record (rec_of r)
read_of (Ok None) = End
read_of (Err e) = Broken

-- the record has the floats and lists of shape k, and its floats lie within the strip
abbrev pub fits_by : List ℕ → Rec → Shape → Bool
fits_by s r k = k.formed && (eqb k.floats r.floats && (eqb k.lists r.lists && leb (r.body + 8 * k.floats) (length s)))

-- it has those of its kind, and the strip isn't over-long
unfoldable pub fits : List ℕ → Rec → Bool
fits s r = leb (length s) most_bytes && fits_by s r (shape_of r.kind r.i r.j)

-- what a record's call leaves; a record that doesn't fit is declined with 2, as a load of a wrong length is, and no run meets one
unfoldable pub made : List ℕ → Rec → Memory → Head → Call → After
made s r m h c = cond (fits s r) (after_call m h c) (after m h (Refused 2))

-- ---- a run

-- the memory of a mixture
abbrev pub lent : Mixture → Memory
lent m = memory m.values m.cells m.marks

-- the text from p on, by the memory and the head
unfoldable pub rest : List ℕ → ℕ → Memory → Head → List ℕ
rest s p m h = lines (answers m h (script_from s (length s - p) p).calls) ++ (script_from s (length s - p) p).ending

-- the whole text, by the memory and the head
unfoldable pub walked : List ℕ → Memory → Head → List ℕ
walked s m h = cond (ltb most_bytes (length s)) broken (rest s 0 m h)
