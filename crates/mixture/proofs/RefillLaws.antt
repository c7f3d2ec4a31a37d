-- Stale cells worked out place by place, row by row through parts, are `written` and `how_many` over all of them.
use mathlib.Core.Path.{◌≡◌, refl, sym, ap, ◌∙◌, subst}
use mathlib.Core.Bool.{Bool, true, false, ◌&&◌, ◌||◌, cond, and-false, or-true, or-false}
use mathlib.Core.List.{List, ◌++◌, append-nil}
use mathlib.Core.Logic.{inl, inr}
use Prim.Native.Nat.{ℕ, zero, suc, ◌+◌, ◌*◌, ◌-◌, ◌<◌, ◌≤◌}
use native.Mathlib.Nat.{ne_of_lt, ne_of_gt, add-zero, le_antisymm, mul-le-mul}
use native.Mathlib.Numerals.{add-one}
use native.Mathlib.Omega.{arith}
use borrow.Rule.Slice.PartMut.{put_mid}
use borrow.Author.Tests.{lt-ltb, le-ltb, eq-eqb, ne_eqb}
use lib.Dec.{ltb, eqb}
use lib.ListN.{length, get_or, set, take, drop, length-append, length-drop, drop_of_length-le, get_or-append}
use lib.Seq.{get_or-take, get_or-drop, get_or-append-add, length-take-le, ext_get_or}
use lib.Ieee.{Float, nan}
use Rattle.arithmetic.specs.Exponential.{exp_of}
use Rattle.arithmetic.specs.Tables.{from}
use Rattle.arithmetic.proofs.Tests.{le-or}
use Rattle.arithmetic.proofs.TableLaws.{by_place, row-end, row_next, from-length, cell_row, cell-column}
use Rattle.mixture.specs.Lists.{written, how_many}
use Rattle.mixture.specs.Steps.Refills.{stale_cell, cell_of, stale_in, stale_of, Refilled}
use Rattle.mixture.proofs.ListLaws.{never, length-written, length_as, get_or-written, get_or_kept, written_same, written_as, written_none, written-set, how_many-le, how_many-none, how_many-add, how_many-same}

-- ---- a writable part, back

-- what comes back of `&mut l[s..]` stands after the first s
pub put_is : {A : Type 0} (l : List A) (s : ℕ) → s ≤ length l → (ys : List A) → put_mid s (length l - s) l ys ≡ take s l ++ ys
put_is l s h ys = rw (drop_of_length-le (drop s l) {i = length l - s} (rw (length-drop s l) (omega arith)), append-nil)

-- ---- the first n places

-- of the first n places those that pass
abbrev pub among : ℕ → (ℕ → Bool) → ℕ → Bool
among n p c = ltb c n && p c

among-past : (n : ℕ) (p : ℕ → Bool) (c : ℕ) → n ≤ c → among n p c ≡ false
among-past n p c h = rw (le-ltb c n h)

pub among_in : (n : ℕ) (p : ℕ → Bool) (c : ℕ) → c < n → among n p c ≡ p c
among_in n p c h = rw (lt-ltb c n h)

-- a place that isn't j is among the first j where it is among the first j + 1
among-other : (j : ℕ) (p : ℕ → Bool) (c : ℕ) → (j ≡ c → ⊥) → among j p c ≡ among (j + 1) p c
among-other j p c ne =
    by_place c j (λ b. rw (lt-ltb c j b, lt-ltb c (j + 1) (omega arith))) (λ e. absurd (ne e)) (λ b. rw (le-ltb c j (omega arith), le-ltb c (j + 1) (omega arith)))

module _ {A : Type 0} (p : ℕ → Bool) (f : ℕ → A) (l : List A) (j : ℕ) where
  written_skip : p j ≡ false → written (among j p) f l ≡ written (among (j + 1) p) f l
  written_skip t = written_same (among j p) (among (j + 1) p) f l (λ c. by_place c j (λ d. among-other j p c (λ q. omega arith)) (λ e. rw (← e, t, and-false, and-false)) (λ d. among-other j p c (λ q. omega arith)))

  written-more : {v : A} → p j ≡ true → v ≡ f j → set (written (among j p) f l) j v ≡ written (among (j + 1) p) f l
  written-more t e = rw e (written-set (among j p) (among (j + 1) p) f l j more)
    where
      more : (c : ℕ) → among (j + 1) p c ≡ (among j p c || eqb c j)
      more c =
          by_place c j
          (λ d. rw (ne_eqb c j (ne_of_lt d), or-false (among j p c)) (sym (among-other j p c (λ q. omega arith))))
          (λ q. rw (← q) (among_in (j + 1) p j (omega arith) ∙ (t ∙ sym (rw (eq-eqb j j refl) (or-true (among j p j))))))
          (λ d. rw (ne_eqb c j (ne_of_gt d), or-false (among j p c)) (sym (among-other j p c (λ q. omega arith))))

-- ---- a row, place by place

pub refilled-none : (p : ℕ → Bool) (f : ℕ → Float) (cells : List Float) (marks : List ℕ) (n : ℕ) → n ≡ 0 → Refilled n p f cells marks cells marks 0
unfolding how_many
refilled-none p f cells marks n e =
    rw e
    record {
      worked = written_none (among 0 p) f cells (λ c. among-past 0 p c (omega arith));
      marked = written_none (among 0 p) (λ c. 1) marks (λ c. among-past 0 p c (omega arith));
      counted = refl;
    }

-- what a loop over a row keeps, Fits being what shows that f is what each stale cell takes
pub record RowRefilling (d : Bool) (i : ℕ) (Fits : (ℕ → Float) → Type 0) (j : ℕ) (cells : List Float) (marks : List ℕ) (cells' : List Float) (marks' : List ℕ) (r : ℕ) : Type 0 where
  pub worked : (f : ℕ → Float) → Fits f → cells' ≡ written (among j (stale_in d marks i)) f cells
  pub marked : marks' ≡ written (among j (stale_in d marks i)) (λ c. 1) marks
  pub counted : r ≡ how_many j (stale_in d marks i)

module _ {d : Bool} {i : ℕ} {Fits : (ℕ → Float) → Type 0} {cells : List Float} {marks : List ℕ} where
  pub row_none : RowRefilling d i Fits 0 cells marks cells marks 0
  row_none = let all = λ (f : ℕ → Float). refilled-none (stale_in d marks i) f cells marks 0 refl in
      record { worked = λ f e. (all f).worked; marked = (all (λ c. nan)).marked; counted = (all (λ c. nan)).counted }

  -- the loop has come to the end
  pub row_done : {j w : ℕ} {c : List Float} {l : List ℕ} {r : ℕ} → j ≤ w → w ≤ j → RowRefilling d i Fits j cells marks c l r
      → (f : ℕ → Float) → Fits f → Refilled w (stale_in d marks i) f cells marks c l r
  row_done {j} {w} {c} {l} {r} a b so f e =
      subst (λ (k : ℕ). Refilled k (stale_in d marks i) f cells marks c l r) (le_antisymm a b)
      record { worked = so.worked f e; marked = so.marked; counted = so.counted }

  -- a turn of the loop goes by what the mark says, which is still the old one
  module _ {j : ℕ} {c : List Float} {l : List ℕ} {r : ℕ} {b : Bool} (so : RowRefilling d i Fits j cells marks c l r) (told : b ≡ stale_cell d (get_or l j 0) i j) where
    pub row_told : b ≡ stale_cell d (get_or marks j 0) i j
    row_told =
        told
        ∙ ap (λ (mark : ℕ). stale_cell d mark i j)
        (rw so.marked (get_or_kept (among j (stale_in d marks i)) (λ c. 1) marks j 0 (among-past j (stale_in d marks i) j (omega arith))))

    pub row_more : {c' : List Float} {m : List ℕ} {s : ℕ} {v : Float} → b ≡ true → ((f : ℕ → Float) → Fits f → v ≡ f j) → c' ≡ set c j v → m ≡ set l j 1 → s ≡ r + 1
        → RowRefilling d i Fits (j + 1) cells marks c' m s
    unfolding how_many
    row_more t e x y z = record {
      worked = λ f fits. x ∙ rw (so.worked f fits) (written-more _ f cells j (sym row_told ∙ t) (e f fits));
      marked = y ∙ rw so.marked (written-more _ (λ c. 1) marks j (sym row_told ∙ t) refl);
      counted = z ∙ rw (so.counted, add-one j, sym row_told ∙ t);
    }

    pub row_skip : {c' : List Float} {m : List ℕ} {s : ℕ} → b ≡ false → c' ≡ c → m ≡ l → s ≡ r → RowRefilling d i Fits (j + 1) cells marks c' m s
    unfolding how_many
    row_skip t x y z = record {
      worked = λ f fits. x ∙ so.worked f fits ∙ written_skip _ f cells j (sym row_told ∙ t);
      marked = y ∙ so.marked ∙ written_skip _ (λ c. 1) marks j (sym row_told ∙ t);
      counted = z ∙ so.counted ∙ rw (add-one j, sym row_told ∙ t, add-zero);
    }

-- ---- rows

-- what a loop over places keeps: those passed are refilled, no slice is longer or shorter, and the count is within the places
pub record Refilling (j : ℕ) (p : ℕ → Bool) (f : ℕ → Float) (cells : List Float) (marks : List ℕ) (cells' : List Float) (marks' : List ℕ) (r : ℕ) : Type 0 where
  pub all : Refilled j p f cells marks cells' marks' r
  pub long : (length cells' ≡ length cells) × (length marks' ≡ length marks)
  pub few : r ≤ j

pub refilling : {j : ℕ} {p : ℕ → Bool} {f : ℕ → Float} {cells : List Float} {marks : List ℕ} {cells' : List Float} {marks' : List ℕ} {r : ℕ}
    → Refilled j p f cells marks cells' marks' r → Refilling j p f cells marks cells' marks' r
refilling {j} {p} {f} {cells} {marks} now =
    record {
      all = now;
      long = (length_as (among j p) f cells now.worked, length_as (among j p) (λ c. 1) marks now.marked);
      few = rw now.counted (how_many-le j p);
    }

-- ---- a row that comes back in the middle

-- what a row is lent is still the old
lent : {A : Type 0} (s : ℕ) (p : ℕ → Bool) (f : ℕ → A) (old : List A) (z : A) {l : List A} → l ≡ written (among s p) f old → (j : ℕ) → s + j < length old
    → get_or (from s l) j z ≡ get_or old (s + j) z
lent {A} s p f old z {l} above j b =
    get_or-take (length l - s) (drop s l) j z (omega (arith, length_as (among s p) f old above))
    ∙ (get_or-drop s l j z ∙ (ap (λ (m : List A). get_or m (s + j) z) above ∙ get_or_kept (among s p) f old (s + j) z (among-past s p (s + j) (omega arith))))

module _ {A : Type 0} (s w : ℕ) (p q : ℕ → Bool) (f g : ℕ → A) (old : List A) (z : A) (h : s + w ≤ length old)
    (ps : (j : ℕ) → j < w → q j ≡ p (s + j)) (fs : (j : ℕ) → j < w → g j ≡ f (s + j)) where
  -- place s + j, before and after
  at_new : (j : ℕ) → cond (among w q j) (g j) (get_or old (s + j) z) ≡ cond (among (s + w) p (s + j)) (f (s + j)) (get_or old (s + j) z)
  at_new j =
      elim (le-or w j) [
        | inl b ↦ rw (among-past w q j b, among-past (s + w) p (s + j) (omega arith))
        | inr b ↦ rw (among_in w q j b, among_in (s + w) p (s + j) (omega arith), ps j b, fs j b)
      ]

  at_old : (c : ℕ) → c < s → among s p c ≡ among (s + w) p c
  at_old c b = rw (among_in s p c b, among_in (s + w) p c (omega arith))

  module _ {l ys : List A} (above : l ≡ written (among s p) f old) (row : ys ≡ written (among w q) g (from s l)) where
    long : length l ≡ length old
    long = length_as (among s p) f old above

    row-long : length ys ≡ length old - s
    row-long = length_as (among w q) g (from s l) row ∙ (from-length s l ∙ rw long)

    lower : (c : ℕ) → c < s → get_or (take s l ++ ys) c z ≡ get_or (written (among (s + w) p) f old) c z
    lower c b =
        get_or-append (take s l) ys z c (rw (length-take-le s l (rw long (omega arith))) b)
        ∙ (get_or-take s l c z b
        ∙ (ap (λ (m : List A). get_or m c z) above
        ∙ (get_or-written (among s p) f old c z (omega arith)
        ∙ (ap (λ (t : Bool). cond t (f c) (get_or old c z)) (at_old c b) ∙ sym (get_or-written (among (s + w) p) f old c z (omega arith))))))

    upper : (j : ℕ) → s + j < length old → get_or (take s l ++ ys) (s + j) z ≡ get_or (written (among (s + w) p) f old) (s + j) z
    upper j b =
        ap (λ (m : ℕ). get_or (take s l ++ ys) (m + j) z) (sym (length-take-le s l (rw long (omega arith))))
        ∙ (get_or-append-add (take s l) ys j z
        ∙ (ap (λ (m : List A). get_or m j z) row
        ∙ (get_or-written (among w q) g (from s l) j z (rw (from-length s l, long) (omega arith))
        ∙ (ap (cond (among w q j) (g j)) (lent s p f old z above j b) ∙ (at_new j ∙ sym (get_or-written (among (s + w) p) f old (s + j) z b))))))

    row_back : put_mid s (length l - s) l ys ≡ written (among (s + w) p) f old
    row_back =
        put_is l s (rw long (omega arith)) ys
        ∙ ext_get_or z (take s l ++ ys) (written (among (s + w) p) f old)
        (length-append (take s l) ys ∙ (rw (length-take-le s l (rw long (omega arith)), row-long, length-written (among (s + w) p) f old) (omega arith)))
        (λ c b.
        let k = rw (length-append (take s l) ys, length-take-le s l (rw long (omega arith)), row-long) at b in
        elim (le-or s c) [
          | inl d ↦ let e : s + (c - s) ≡ c = omega arith in subst (λ (m : ℕ). get_or (take s l ++ ys) m z ≡ get_or (written (among (s + w) p) f old) m z) e (upper (c - s) (omega arith))
          | inr d ↦ lower c d
        ])

-- the rows above i, and row i: what it holds is what stands at its places
module _ (d : Bool) (w i : ℕ) (f g : ℕ → Float) (cells : List Float) (marks : List ℕ) (b : i < w)
    (hc : w * w ≤ length cells) (hm : w * w ≤ length marks) (gs : (j : ℕ) → j < w → g j ≡ f (i * w + j)) where
  rows_all : {c ys : List Float} {l zs : List ℕ} {r s : ℕ} → Refilled (i * w) (stale_of d w marks) f cells marks c l r
      → Refilled w (stale_in d (from (i * w) l) i) g (from (i * w) c) (from (i * w) l) ys zs s
      → Refilling ((i + 1) * w) (stale_of d w marks) f cells marks
      (put_mid (i * w) (length c - i * w) c ys) (put_mid (i * w) (length l - i * w) l zs) (r + s)
  rows_all {c} {ys} {l} {zs} {r} {s} above row =
      refilling (record {
        worked = row_back (i * w) w p q f g cells nan (omega (arith, row-end w w i b)) ps gs above.worked row.worked ∙ rw (row_next w i);
        marked = row_back (i * w) w p q (λ c. 1) (λ c. 1) marks 0 (omega (arith, row-end w w i b)) ps (λ j b. refl) above.marked row.marked ∙ rw (row_next w i);
        counted = rw (above.counted, row.counted, how_many-same w q (λ j. p (i * w + j)) ps, row_next w i) (sym (how_many-add (i * w) w p));
      })
    where
      p : ℕ → Bool
      p = stale_of d w marks

      q : ℕ → Bool
      q = stale_in d (from (i * w) l) i

      ps : (j : ℕ) → j < w → q j ≡ p (i * w + j)
      ps j e =
          rw (cell_row w i j e, cell-column w i j e)
          (ap (λ (mark : ℕ). stale_cell d mark i j) (lent (i * w) p (λ c. 1) marks 0 above.marked j (omega (arith, row-end w w i b))))

  -- row i starts at place k
  pub rows_more : {c ys : List Float} {l zs : List ℕ} {r s k : ℕ} → k ≡ i * w → Refilling (i * w) (stale_of d w marks) f cells marks c l r
      → Refilled w (stale_in d (from k l) i) g (from k c) (from k l) ys zs s
      → Refilling ((i + 1) * w) (stale_of d w marks) f cells marks (put_mid k (length c - k) c ys) (put_mid k (length l - k) l zs) (r + s)
  rows_more e above row = rw e (rows_all above.all (rw e at row))

-- entry j of row i, by its place
pub row-cells : (w : ℕ) (A : ℕ → ℕ → Float) (i j : ℕ) → j < w → exp_of (A i j) ≡ cell_of w A (i * w + j)
row-cells w A i j b = rw (cell_row w i j b, cell-column w i j b)

-- ---- row i ends within the w·w places
pub row_room : (w i : ℕ) → w ≤ 32 → i < w → (i * w + w ≤ w * w) × (w * w ≤ 1024)
row_room w i few b = (row-end w w i b, mul-le-mul few few)

-- the last of n rows ends within the table
pub last_row : (n : ℕ) → (n - 1) * n + n ≤ n * n
last_row zero = omega arith
last_row (suc n) = row-end (suc n) (suc n) (suc n - 1) (omega arith)

-- ---- a row with nothing stale

pub refilled-fresh : (n : ℕ) (p : ℕ → Bool) (f : ℕ → Float) (cells : List Float) (marks : List ℕ) → ((c : ℕ) → c < n → p c ≡ false) → Refilled n p f cells marks cells marks 0
refilled-fresh n p f cells marks h =
    record { worked = written_none _ _ cells nowhere; marked = written_none _ _ marks nowhere; counted = sym (how_many-none n p h) }
  where
    nowhere : (c : ℕ) → among n p c ≡ false
    nowhere c = elim (le-or n c) [ inl b ↦ among-past n p c b | inr b ↦ among_in n p c b ∙ h c b ]

-- ---- equal exponentials

pub among_below : (n : ℕ) (p : ℕ → Bool) (c : ℕ) → among n p c ≡ true → c < n
among_below n p c t = elim (le-or n c) [ inl b ↦ never (sym t ∙ among-past n p c b) | inr b ↦ b ]

pub refilled_as : (n : ℕ) (p : ℕ → Bool) (f g : ℕ → Float) (cells : List Float) (marks : List ℕ) {cells' : List Float} {marks' : List ℕ} {r : ℕ} → ((c : ℕ) → c < n → f c ≡ g c)
    → Refilled n p f cells marks cells' marks' r → Refilled n p g cells marks cells' marks' r
refilled_as n p f g cells marks e r =
    record {
      worked = r.worked ∙ written_as (among n p) f g cells (λ c t. e c (among_below n p c t));
      marked = r.marked;
      counted = r.counted;
    }
