-- Places of a table by full rows, an array that a loop fills, and the entries of a part.
use Rattle.std.proofs.Common.{◌≡◌, ℕ, ◌+◌, ◌-◌, ◌*◌, ◌/◌, ◌%◌, ◌<◌, ◌≤◌, List, ◌++◌, length, map, take, drop, set, sym, refl, ap, ◌∙◌, ⊎_elim, add-zero, mul-le-mul_right, mod-eq_of_lt, suc-mul, add-mul, le_antisymm, eq-or-lt_of_le, one-mul, ne_of_gt, ne_of_lt, arith, length-drop, length-set, length-take, length-take-le, get_or-drop, get_or-set_other, get_or-take, get_or-set_same, get_or-append-add, below_more, le-ltb, lt-ltb}
use Rattle.std.proofs.lemmas.List.{get_or_default, get_or-map, length-map}
use Rattle.std.proofs.lemmas.List.Edits.{map_over_more}
use native.Mathlib.Nat.{mul-add-div_right, mul-add-mod_self_right, div-eq_of_lt}
use lib.ListN.{get_or-append}
use lib.Ieee.{Float, nan}
use Rattle.arithmetic.proofs.Tests.{le-or}
use Rattle.arithmetic.specs.Tables.{at, grid, from, part, Filled, up_to, flat}

-- ---- entry i, j of rows of n, at i * n + j

pub row-end : (m n i : ℕ) → i < m → i * n + n ≤ m * n
row-end m n i h = rw suc-mul at (mul-le-mul_right n h)

pub cell-lt : (m n i j : ℕ) → i < m → j < n → i * n + j < m * n
cell-lt m n i j h k = omega (arith, row-end m n i h)

pub row_next : (n i : ℕ) → (i + 1) * n ≡ i * n + n
row_next n i = rw (add-mul, one-mul)

pub cell_row : (n i j : ℕ) → j < n → (i * n + j) / n ≡ i
cell_row n i j h = rw (mul-add-div_right {m = n} (omega arith), div-eq_of_lt h, add-zero)

pub cell-column : (n i j : ℕ) → j < n → (i * n + j) % n ≡ j
cell-column n i j h = rw (mul-add-mod_self_right, mod-eq_of_lt h)

pub flat-cell : (n : ℕ) (L : ℕ → ℕ → Float) (i j : ℕ) → j < n → flat n L (i * n + j) ≡ L i j
unfolding flat
flat-cell n L i j h = rw (cell_row n i j h, cell-column n i j h)

-- ---- filling

pub filled_none : {F : ℕ → Float} {p : ℕ} {g : List Float} → p ≤ 0 → Filled F p g
filled_none le = record { each = λ k h. absurd (omega arith) }

-- a store at p, the next place
pub filled_more : {F : ℕ → Float} {g : List Float} {p q : ℕ} {v : Float} → q ≤ p + 1 → p < length g → Filled F p g → v ≡ F p → Filled F q (set g p v)
filled_more {F} {g} {p} {q} {v} le lt all here =
    record {
      each = λ k h.
          below_more (λ k. at (set g p v) k ≡ F k) p
          (λ k b. get_or-set_other g p k v nan (ne_of_lt b) ∙ all.each k b)
          (get_or-set_same g p v nan lt ∙ here)
          k (omega arith);
    }

pub filled-less : {F : ℕ → Float} {g : List Float} {p q : ℕ} → q ≤ p → Filled F p g → Filled F q g
filled-less le all = record { each = λ k h. all.each k (omega arith) }

-- a loop over k that fills the first n of m places
pub record Filling (F : ℕ → Float) (n m k : ℕ) (g : List Float) : Type 0 where
  pub within : k ≤ n
  pub room : n ≤ m
  pub long : length g ≡ m
  pub filled : Filled F k g

pub filling_none : {F : ℕ → Float} {n m : ℕ} {g : List Float} → n ≤ m → length g ≡ m → Filling F n m 0 g
filling_none h l = record { within = omega arith; room = h; long = l; filled = filled_none (omega arith) }

pub filling_more : {F : ℕ → Float} {n m k : ℕ} {g : List Float} {v : Float} → k < n → Filling F n m k g → v ≡ F k → Filling F n m (k + 1) (set g k v)
filling_more h f e = record {
  within = omega arith;
  room = f.room;
  long = simp length-set f.long;
  filled = filled_more (omega arith) (omega arith) f.filled e;
}

pub filling_done : {F : ℕ → Float} {n m k : ℕ} {g : List Float} → n ≤ k → Filling F n m k g → Filled F n g
filling_done h f = filled-less h f.filled

-- equal entries
pub filled_as : {F G : ℕ → Float} {g : List Float} {p : ℕ} → ((k : ℕ) → k < p → F k ≡ G k) → Filled F p g → Filled G p g
filled_as e all = record { each = λ k h. all.each k h ∙ e k h }

-- a table that is filled has each entry
pub filled-cell : (m n : ℕ) (L : ℕ → ℕ → Float) {g : List Float} → Filled (flat n L) (m * n) g → (i j : ℕ) → i < m → j < n → grid n g i j ≡ L i j
filled-cell m n L all i j a b = all.each (i * n + j) (cell-lt m n i j a b) ∙ flat-cell n L i j b

-- ---- places rewritten in order

-- k is below j, at j or above j
pub by_place : (k j : ℕ) {P : Type 0} → (k < j → P) → (j ≡ k → P) → (j < k → P) → P
by_place k j f g h = ⊎_elim (λ b. ⊎_elim g h (eq-or-lt_of_le b)) f (le-or j k)

pub upto_below : (n : ℕ) (new old : ℕ → Float) (k : ℕ) → k < n → up_to n new old k ≡ new k
unfolding up_to
upto_below n new old k h = rw (lt-ltb k n h)

pub upto_above : (n : ℕ) (new old : ℕ → Float) (k : ℕ) → n ≤ k → up_to n new old k ≡ old k
unfolding up_to
upto_above n new old k h = rw (le-ltb k n h)

pub upto_none : (new : ℕ → Float) (l : List Float) (p : ℕ) → Filled (up_to 0 new (at l)) p l
upto_none new l p = record { each = λ k h. sym (upto_above 0 new (at l) k (omega arith)) }

pub upto_more : (new old : ℕ → Float) (j p : ℕ) {l : List Float} {v : Float} → j < length l → v ≡ new j → Filled (up_to j new old) p l → Filled (up_to (j + 1) new old) p (set l j v)
upto_more new old j p {l} {v} b w all = record {
  each = λ k h.
      by_place k j
      (λ c. get_or-set_other l j k v nan (ne_of_lt c) ∙ all.each k h ∙ upto_below j new old k c ∙ sym (upto_below (j + 1) new old k (omega arith)))
      (λ q. rw (← q) (get_or-set_same l j v nan b ∙ w ∙ sym (upto_below (j + 1) new old j (omega arith))))
      (λ d. get_or-set_other l j k v nan (ne_of_gt d) ∙ all.each k h ∙ upto_above j new old k (omega arith) ∙ sym (upto_above (j + 1) new old k (omega arith)));
}

-- the place that the loop reads next is still the old one
pub upto_next : (new old : ℕ → Float) (j p : ℕ) {l : List Float} → j < p → Filled (up_to j new old) p l → at l j ≡ old j
upto_next new old j p h all = all.each j h ∙ upto_above j new old j (omega arith)

-- a loop over k that rewrites the first n places of l
pub record Rewriting (new : ℕ → Float) (n : ℕ) (l : List Float) (k : ℕ) (g : List Float) : Type 0 where
  pub within : k ≤ n
  pub room : n ≤ length l
  pub long : length g ≡ length l
  pub filled : Filled (up_to k new (at l)) (length l) g

module _ {new : ℕ → Float} {n : ℕ} {l : List Float} where
  pub rewriting_none : n ≤ length l → Rewriting new n l 0 l
  rewriting_none h = record { within = omega arith; room = h; long = refl; filled = upto_none new l (length l) }

  pub rewriting_next : {k : ℕ} {g : List Float} → k < n → Rewriting new n l k g → at g k ≡ at l k
  rewriting_next {k} h f = upto_next new (at l) k (length l) (omega (arith, f.room)) f.filled

  pub rewriting_more : {k : ℕ} {g : List Float} {v : Float} → k < n → v ≡ new k → Rewriting new n l k g → Rewriting new n l (k + 1) (set g k v)
  rewriting_more {k} h e f = record {
    within = omega arith;
    room = f.room;
    long = simp length-set f.long;
    filled = upto_more new (at l) k (length l) (omega arith) e f.filled;
  }

  pub rewriting_done : {k : ℕ} {g : List Float} → n ≤ k → Rewriting new n l k g → Filled (up_to n new (at l)) (length l) g
  rewriting_done h f = rw (← le_antisymm f.within h) f.filled

  pub rewriting_filled : {k : ℕ} {g : List Float} → n ≤ k → Rewriting new n l k g → Filled new n g
  rewriting_filled h f = record { each = λ j b. (rewriting_done h f).each j (omega (arith, f.room)) ∙ upto_below n new (at l) j b }

-- ---- f of each place put there

-- the next place in a loop over i
pub mapped_more : (f : Float → Float) (old l : List Float) (i : ℕ) {v : Float} → i < length old → length l ≡ length old → l ≡ map f (take i old) ++ drop i old → v ≡ f (at l i) → set l i v ≡ map f (take (i + 1) old) ++ drop (i + 1) old
mapped_more f old l i b long so e = rw e (map_over_more f old l i (at l i) b so (get_or_default l i nan (at l i) (omega arith)))

-- the first n places
pub taken_by_map : (f : Float → Float) (n : ℕ) (l : List Float) {m : List Float} → n ≤ length l → m ≡ map f (take n l) → Filled (up_to n (λ k. f (at l k)) (at l)) (length l) (m ++ drop n l)
taken_by_map f n l {m} h e =
    let long : length m ≡ n = ap length e ∙ length-map (take n l) f ∙ length-take-le n l h in
    record {
      each = λ k b.
          ⊎_elim
          (λ above.
          let past : k ≡ length m + (k - n) = omega arith in
          ap (at (m ++ drop n l)) past
          ∙ get_or-append-add m (drop n l) (k - n) nan
          ∙ get_or-drop n l (k - n) nan
          ∙ ap (at l) (omega arith)
          ∙ sym (upto_above n (λ k. f (at l k)) (at l) k above))
          (λ below.
          get_or-append m (drop n l) nan k (omega arith)
          ∙ ap (λ l. at l k) e
          ∙ get_or-map f (take n l) k nan nan (omega (arith, length-take-le n l h))
          ∙ ap f (get_or-take n l k nan below)
          ∙ sym (upto_below n (λ k. f (at l k)) (at l) k below))
          (le-or n k);
    }

-- ---- parts

pub part_length : {A : Type 0} (s e : ℕ) (l : List A) → e ≤ length l → length (part s e l) ≡ e - s
part_length s e l h = simp (length-take, length-drop) (omega arith)

pub part_at : (l : List Float) (s e k : ℕ) → k < e - s → at (part s e l) k ≡ at l (s + k)
part_at l s e k h = rw (get_or-take, get_or-drop)

pub from-length : {A : Type 0} (s : ℕ) (l : List A) → length (from s l) ≡ length l - s
from-length s l = simp (length-take, length-drop) (omega arith)

pub from-room : {A : Type 0} (s n : ℕ) (l : List A) → s + n ≤ length l → n ≤ length (from s l)
from-room s n l h = omega (arith, from-length s l)

pub from_at : (l : List Float) (s k : ℕ) → s + k < length l → at (from s l) k ≡ at l (s + k)
from_at l s k h = part_at l s (length l) k (omega arith)

-- ---- a list with ys in its middle, as a writable part comes back

pub back-before : (s : ℕ) (l ys rest : List Float) (k : ℕ) → s ≤ length l → k < s → at (take s l ++ (ys ++ rest)) k ≡ at l k
back-before s l ys rest k h b = get_or-append (take s l) (ys ++ rest) nan k (omega (arith, length-take-le s l h)) ∙ get_or-take s l k nan b

pub back-within : (s : ℕ) (l ys rest : List Float) (k : ℕ) → s ≤ length l → k < length ys → at (take s l ++ (ys ++ rest)) (s + k) ≡ at ys k
back-within s l ys rest k h b =
    ap (λ (m : ℕ). at (take s l ++ (ys ++ rest)) (m + k)) (sym (length-take-le s l h)) ∙ get_or-append-add (take s l) (ys ++ rest) k nan ∙ get_or-append ys rest nan k b
