-- The group lists after a kind 4's tables (document 01, "Strip and program"): per component a kind 12 with i = list length,
-- then kind 13 with i = group, and its count.
use Rattle.std.specs.Prelude.{ℕ, zero, suc, ◌+◌, Bool, ◌&&◌, cond, List, [], ◌∷◌, leb, eqb, length, Float}
use Rattle.arithmetic.specs.Bytes.{word_at, float_at}
use Rattle.strip.specs.Words.{kind_of, i_of, j_of, rest_of}

-- lengths, groups and counts, list after list, and the place past them: 0 where one of their words is missing
pub record Lists : Type 0 where
  pub lens : List ℕ
  pub groups : List ℕ
  pub counts : List Float
  pub end : ℕ

abbrev pub no_lists : ℕ → Lists
no_lists p = record { lens = []; groups = []; counts = []; end = p }

abbrev pub missing : Lists
missing = no_lists 0

abbrev pub with_pair : ℕ → Float → Lists → Lists
with_pair g v l = record { lens = l.lens; groups = g ∷ l.groups; counts = v ∷ l.counts; end = l.end }

abbrev pub with_list : ℕ → Lists → Lists
with_list n l = record { lens = n ∷ l.lens; groups = l.groups; counts = l.counts; end = l.end }

-- a word of the kind stands at p, j and bits 16 to 27 of it are 0, and it has n bytes with what belongs to it
unfoldable pub is_word : List ℕ → ℕ → ℕ → ℕ → Bool
is_word s kind n p =
    leb (p + n) (length s) && (eqb (kind_of (word_at s p)) kind && (eqb (j_of (word_at s p)) 0 && eqb (rest_of (word_at s p)) 0))

-- m kinds 13 from p on, and then the lists that `next` reads
unfoldable pub pairs_at : List ℕ → ℕ → (ℕ → Lists) → ℕ → Lists
pairs_at s zero next p = next p
pairs_at s (suc m) next p =
    cond (is_word s 13 12 p) (with_pair (i_of (word_at s p)) (float_at s (p + 4)) (pairs_at s m next (p + 12))) missing

-- the lists of m components from p on
unfoldable pub lists_at : List ℕ → ℕ → ℕ → Lists
lists_at s zero p = no_lists p
lists_at s (suc m) p =
    cond (is_word s 12 4 p) (with_list (i_of (word_at s p)) (pairs_at s (i_of (word_at s p)) (lists_at s m) (p + 4))) missing
