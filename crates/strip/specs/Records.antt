-- The records of a strip: document 01, "Strip and program".
use Rattle.std.specs.Prelude.{ℕ, ◌+◌, ◌*◌, Bool, true, false, ◌&&◌, ◌||◌, cond, List, leb, ltb, eqb, length}
use Rattle.arithmetic.specs.Bytes.{word_at}
use Rattle.models.specs.Values.{wilson_size, uniquac_size, nrtl_size, counts_at}
use Rattle.strip.specs.Words.{kind_of, i_of, j_of, rest_of}
use Rattle.strip.specs.GroupLists.{lists_at}

-- whether the fields i and j of a head word are as its kind has them, how many floats follow it, and how many lists follow these
pub record Shape : Type 0 where
  pub formed : Bool
  pub floats : ℕ
  pub lists : ℕ

-- the fields of a head word, how many floats and lists follow it, where the floats start, and where the next record does
pub record Rec : Type 0 where
  pub kind : ℕ
  pub i : ℕ
  pub j : ℕ
  pub floats : ℕ
  pub lists : ℕ
  pub body : ℕ
  pub next : ℕ

-- what stands at a place: a record, one that is malformed or cut, or nothing any more
pub data Read : Type 0 where
  Record : Rec → Read
  Broken : Read
  End : Read

abbrev pub shape : Bool → ℕ → ℕ → Shape
shape formed floats lists = record { formed = formed; floats = floats; lists = lists }

-- the shape of a head word of a kind with fields i and j
-- 1 Wilson, i = n: a by rows, V; 2 UNIQUAC: a, r's, q's; 3 NRTL: τ by rows, five each, α;
-- 4 UNIFAC, i = n, j = ng: R's, Q's, a by rows, five each, and then its lists;
-- 5 temperature; 6 fractions, i = length; 7 entry; 8 td entry; 9 size; 10 count;
-- 11 query, j at most 2, and with j = 2 no i.
unfoldable pub shape_of : ℕ → ℕ → ℕ → Shape
shape_of kind i j =
    cond (eqb kind 1) (shape (eqb j 0) (wilson_size i) 0)
    (cond (eqb kind 2) (shape (eqb j 0) (uniquac_size i) 0)
    (cond (eqb kind 3) (shape (eqb j 0) (nrtl_size i) 0)
    (cond (eqb kind 4) (shape true (counts_at j) i)
    (cond (eqb kind 5) (shape (eqb i 0 && eqb j 0) 1 0)
    (cond (eqb kind 6) (shape (eqb j 0) i 0)
    (cond (eqb kind 7) (shape true 1 0)
    (cond (eqb kind 8) (shape true 5 0)
    (cond (eqb kind 9) (shape true 1 0)
    (cond (eqb kind 10) (shape true 1 0)
    (cond (eqb kind 11) (shape (ltb j 2 || (eqb j 2 && eqb i 0)) 0 0)
    (shape false 0 0)))))))))))

-- the record at p whose head word is w
abbrev pub record_of : List ℕ → ℕ → ℕ → Shape → Rec
record_of s p w k =
    record {
      kind = kind_of w;
      i = i_of w;
      j = j_of w;
      floats = k.floats;
      lists = k.lists;
      body = p + 4;
      next = (lists_at s k.lists (p + 4 + 8 * k.floats)).end;
    }

-- broken where its lists aren't all there, or where it is cut
abbrev pub whole : List ℕ → Rec → Read
whole s r = cond (eqb r.next 0) Broken (cond (ltb (length s) r.next) Broken (Record r))

-- broken where a bit or a field that should be 0 isn't, or where no record begins with the kind
unfoldable pub record_by : List ℕ → ℕ → ℕ → Shape → Read
record_by s p w k = cond (eqb (rest_of w) 0 && k.formed) (whole s (record_of s p w k)) Broken

-- what stands at p: nothing any more, a record, or one that is malformed or cut
unfoldable pub read_at : List ℕ → ℕ → Read
read_at s p =
    cond (leb (length s) p) End
    (cond (ltb (length s) (p + 4)) Broken
    (record_by s p (word_at s p) (shape_of (kind_of (word_at s p)) (i_of (word_at s p)) (j_of (word_at s p)))))
