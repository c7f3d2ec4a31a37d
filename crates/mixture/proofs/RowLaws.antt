-- Rows written out one after the other are read back at their places.
use mathlib.Core.Path.{◌≡◌, refl, sym, ◌∙◌, subst}
use mathlib.Core.List.{List, [], ◌∷◌, ◌++◌}
use mathlib.Core.Logic.{inl, inr}
use Prim.Native.Nat.{ℕ, zero, suc, ◌+◌, ◌*◌, ◌-◌, ◌<◌, ◌≤◌}
use native.Mathlib.Nat.{zero-mul, suc-mul, add_assoc, add-zero}
use native.Mathlib.Numerals.{add-one, add-two, add-three, add-four, add_five}
use native.Mathlib.Omega.{arith}
use lib.ListN.{length, get_or, take, drop, length-append, length-drop, get_or-append}
use lib.Seq.{get_or-append-add, get_or-append_seam, get_or-take, get_or-drop, length-take-le, drop-cons, ext_get_or}
use lib.Ieee.{Float, nan}
use Rattle.arithmetic.specs.Tables.{at}
use Rattle.arithmetic.specs.declared.parameters.TdParam.{TdParam}
use Rattle.arithmetic.proofs.Tests.{le-or}
use Rattle.arithmetic.proofs.TableLaws.{cell-lt}
use Rattle.models.specs.Values.{five_at, start}
use Rattle.mixture.specs.Lists.{row, rows}
use Rattle.mixture.specs.WrittenBack.{fives}

module _ {A : Type 0} where
  -- the second of two lists
  pub get_or_after : (xs ys : List A) (n k : ℕ) (z : A) → length xs ≡ n → get_or (xs ++ ys) (n + k) z ≡ get_or ys k z
  get_or_after xs ys n k z e = subst (λ (m : ℕ). get_or (xs ++ ys) (m + k) z ≡ get_or ys k z) e (get_or-append-add xs ys k z)

  pub get_or-before : (xs ys : List A) (n k : ℕ) (z : A) → length xs ≡ n → k < n → get_or (xs ++ ys) k z ≡ get_or xs k z
  get_or-before xs ys n k z e h = get_or-append xs ys z k (rw e h)

  -- ---- one row

  pub length-row : (n : ℕ) (f : ℕ → A) → length (row n f) ≡ n
  unfolding row
  length-row zero f = refl
  length-row (suc n) f = rw (length-append (row n f) (f n ∷ []), length-row n f) (omega arith)

  pub row_at : (n : ℕ) (f : ℕ → A) (k : ℕ) (z : A) → k < n → get_or (row n f) k z ≡ f k
  unfolding row
  row_at zero f k z h = absurd (omega arith)
  row_at (suc n) f k z h =
      elim (le-or n k) [
        | inl g ↦
            let e : k ≡ n = omega arith in
            rw e (subst (λ (m : ℕ). get_or (row n f ++ (f n ∷ [])) m z ≡ f n) (length-row n f) (get_or-append_seam (row n f) (f n) [] z))
        | inr g ↦ get_or-before (row n f) (f n ∷ []) n k z (length-row n f) g ∙ row_at n f k z g
      ]

-- ---- rows

-- how many places stand before row i
unfoldable pub before : (ℕ → ℕ) → ℕ → ℕ
before len zero = 0
before len (suc i) = before len i + len i

before-le : (len : ℕ → ℕ) (i n : ℕ) → i ≤ n → before len i ≤ before len n
unfolding before
before-le len i zero h = let e : i ≡ 0 = omega arith in rw e (omega arith)
before-le len i (suc n) h =
    elim (le-or (suc n) i) [
      | inl g ↦ let e : i ≡ suc n = omega arith in rw e (omega arith)
      | inr g ↦ omega (arith, before-le len i n (omega arith))
    ]

pub before_in : (len : ℕ → ℕ) (i n j : ℕ) → i < n → j < len i → before len i + j < before len n
unfolding before
before_in len i n j h g = omega (arith, before-le len (suc i) n h)

-- rows of w each
pub before-table : (w i : ℕ) → before (λ _. w) i ≡ i * w
unfolding before
before-table w zero = rw (zero-mul w)
before-table w (suc i) = rw (before-table w i, suc-mul i w)

pub before-start : (n : ℕ) (len : ℕ → ℕ) (i : ℕ) → i ≤ n → start (row n len) i ≡ before len i
unfolding before start
before-start n len zero h = refl
before-start n len (suc i) h = rw (before-start n len i (omega arith), row_at n len i 0 h)

pub before-lens : (lens : List ℕ) (i : ℕ) → before (λ k. get_or lens k 0) i ≡ start lens i
unfolding before start
before-lens lens zero = refl
before-lens lens (suc i) = rw (before-lens lens i)

-- each place is one of a row
pub record InRow (len : ℕ → ℕ) (n p : ℕ) : Type 0 where
  pub i : ℕ
  pub j : ℕ
  pub row : i < n
  pub column : j < len i
  pub place : p ≡ before len i + j

pub in_row_lem : (len : ℕ → ℕ) (n p : ℕ) → p < before len n → InRow len n p
unfolding before
in_row_lem len zero p h = absurd (omega arith)
in_row_lem len (suc n) p h =
    elim (le-or (before len n) p) [
      | inl g ↦ record { i = n; j = p - before len n; row = omega arith; column = omega arith; place = omega arith }
      | inr g ↦ let r = in_row_lem len n p g in record { i = r.i; j = r.j; row = omega (arith, r.row); column = r.column; place = r.place }
    ]

module _ {A : Type 0} (len : ℕ → ℕ) (f : ℕ → ℕ → A) where
  pub length-rows : (n : ℕ) → length (rows n len f) ≡ before len n
  unfolding rows before
  length-rows zero = refl
  length-rows (suc n) = rw (length-append (rows n len f) (row (len n) (f n)), length-rows n, length-row (len n) (f n))

  pub rows_at : (n i j : ℕ) (z : A) → i < n → j < len i → get_or (rows n len f) (before len i + j) z ≡ f i j
  unfolding rows
  rows_at zero i j z h g = absurd (omega arith)
  rows_at (suc n) i j z h g =
      elim (le-or n i) [
        | inl b ↦
            let e : n ≡ i = omega arith in
            subst (λ (r : ℕ). get_or (rows n len f ++ row (len n) (f n)) (before len r + j) z ≡ f r j) e
            (get_or_after (rows n len f) (row (len n) (f n)) (before len n) j z (length-rows n) ∙ row_at (len n) (f n) j z (subst (λ (r : ℕ). j < len r) (sym e) g))
        | inr b ↦ get_or-before (rows n len f) (row (len n) (f n)) (before len n) (before len i + j) z (length-rows n) (before_in len i n j b g) ∙ rows_at n i j z b g
      ]

-- a table by rows of w
module _ {A : Type 0} (n w : ℕ) (f : ℕ → ℕ → A) where
  pub length-table : length (rows n (λ _. w) f) ≡ n * w
  length-table = length-rows (λ _. w) f n ∙ before-table w n

  pub table_at : (i j : ℕ) (z : A) → i < n → j < w → get_or (rows n (λ _. w) f) (i * w + j) z ≡ f i j
  table_at i j z h g = rw (before-table w i) at (rows_at (λ _. w) f n i j z h g)

-- ---- fives

length-fives : (l : List TdParam) → length (fives l) ≡ length l * 5
unfolding fives
length-fives [] = refl
length-fives (p ∷ l) = rw (length-fives l, suc-mul (length l) 5) (omega arith)

five-past : (p : TdParam) (l : List Float) (q r : ℕ) → q ≡ 5 + r → at (p.a ∷ p.b ∷ p.c ∷ p.d ∷ p.e ∷ l) q ≡ at l r
five-past p l q r e = rw e (get_or-append-add (p.a ∷ p.b ∷ p.c ∷ p.d ∷ p.e ∷ []) l r nan)

fives-at : (l : List TdParam) (k : ℕ) (z : TdParam) → k < length l → five_at (fives l) (k * 5) ≡ get_or l k z
unfolding fives five_at
fives-at [] k z h = absurd (omega arith)
fives-at (p ∷ l) zero z h = refl
fives-at (p ∷ l) (suc k) z h =
    rw (
      five-past p (fives l) (suc k * 5) (k * 5) (rw (suc-mul k 5) (omega arith)),
      five-past p (fives l) (suc k * 5 + 1) (k * 5 + 1) (rw (suc-mul k 5) (omega arith)),
      five-past p (fives l) (suc k * 5 + 2) (k * 5 + 2) (rw (suc-mul k 5) (omega arith)),
      five-past p (fives l) (suc k * 5 + 3) (k * 5 + 3) (rw (suc-mul k 5) (omega arith)),
      five-past p (fives l) (suc k * 5 + 4) (k * 5 + 4) (rw (suc-mul k 5) (omega arith)),
    )
    (fives-at l k z (omega arith))

pub five-after : (xs ys : List Float) (n q : ℕ) → length xs ≡ n → five_at (xs ++ ys) (n + q) ≡ five_at ys q
unfolding five_at
five-after xs ys n q e =
    rw (
      get_or_after xs ys n q nan e,
      add_assoc n q 1,
      get_or_after xs ys n (q + 1) nan e,
      add_assoc n q 2,
      get_or_after xs ys n (q + 2) nan e,
      add_assoc n q 3,
      get_or_after xs ys n (q + 3) nan e,
      add_assoc n q 4,
      get_or_after xs ys n (q + 4) nan e,
    )

pub five-before : (xs ys : List Float) (n q : ℕ) → length xs ≡ n → q + 5 ≤ n → five_at (xs ++ ys) q ≡ five_at xs q
unfolding five_at
five-before xs ys n q e h =
    rw (
      get_or-before xs ys n q nan e (omega arith),
      get_or-before xs ys n (q + 1) nan e (omega arith),
      get_or-before xs ys n (q + 2) nan e (omega arith),
      get_or-before xs ys n (q + 3) nan e (omega arith),
      get_or-before xs ys n (q + 4) nan e (omega arith),
    )

-- a table of td entries, five each
module _ (n w : ℕ) (f : ℕ → ℕ → TdParam) where
  pub length-tds : length (fives (rows n (λ _. w) f)) ≡ n * w * 5
  length-tds = length-fives (rows n (λ _. w) f) ∙ rw (length-table n w f)

  pub tds-at : (i j : ℕ) → i < n → j < w → five_at (fives (rows n (λ _. w) f)) ((i * w + j) * 5) ≡ f i j
  tds-at i j h g =
      fives-at (rows n (λ _. w) f) (i * w + j) (five_at [] 0) (rw (length-table n w f) (cell-lt n w i j h g)) ∙ table_at n w f i j (five_at [] 0) h g

-- ---- what is read off a list and written out again is that part of the list

module _ {A : Type 0} (v : List A) (s : ℕ) (z : A) where
  part-get_or : (n k : ℕ) → k < n → get_or (take n (drop s v)) k z ≡ get_or v (s + k) z
  part-get_or n k h = get_or-take n (drop s v) k z h ∙ get_or-drop s v k z

  length_part : (n : ℕ) → s + n ≤ length v → length (take n (drop s v)) ≡ n
  length_part n h = length-take-le n (drop s v) (rw (length-drop s v) (omega arith))

  pub row_is : (n : ℕ) (f : ℕ → A) → ((k : ℕ) → k < n → f k ≡ get_or v (s + k) z) → s + n ≤ length v → row n f ≡ take n (drop s v)
  row_is n f e h =
      ext_get_or z (row n f) (take n (drop s v)) (length-row n f ∙ sym (length_part n h))
      (λ k b.
      let c : k < n = rw (length-row n f) at b in
      row_at n f k z c ∙ (e k c ∙ sym (part-get_or n k c)))

  pub rows_is : (n : ℕ) (len : ℕ → ℕ) (f : ℕ → ℕ → A) → ((i j : ℕ) → i < n → j < len i → f i j ≡ get_or v (s + (before len i + j)) z)
      → s + before len n ≤ length v → rows n len f ≡ take (before len n) (drop s v)
  rows_is n len f e h =
      ext_get_or z (rows n len f) (take (before len n) (drop s v)) (length-rows len f n ∙ sym (length_part (before len n) h))
      (λ k b.
      let c : k < before len n = rw (length-rows len f n) at b in
      at_place k c (in_row_lem len n k c))
    where
      at_place : (k : ℕ) → k < before len n → InRow len n k → get_or (rows n len f) k z ≡ get_or (take (before len n) (drop s v)) k z
      at_place k c r =
          rw (part-get_or (before len n) k c)
          (rw r.place (rows_at len f n r.i r.j z r.row r.column ∙ e r.i r.j r.row r.column))

  -- a table by rows of w
  pub table_is : (n w : ℕ) (f : ℕ → ℕ → A) → ((i j : ℕ) → i < n → j < w → f i j ≡ get_or v (s + (i * w + j)) z) → s + n * w ≤ length v
      → rows n (λ _. w) f ≡ take (n * w) (drop s v)
  table_is n w f e h =
      rows_is n (λ _. w) f (λ i j b c. rw (before-table w i) (e i j b c)) (rw (before-table w n) h) ∙ rw (before-table w n)

drop-five : (v : List Float) (s : ℕ) → s + 5 ≤ length v → drop s v ≡ at v s ∷ at v (s + 1) ∷ at v (s + 2) ∷ at v (s + 3) ∷ at v (s + 4) ∷ drop (s + 5) v
drop-five v s h =
    rw (
      add-one s,
      add-two s,
      add-three s,
      add-four s,
      add_five s,
      drop-cons v s nan (omega arith),
      drop-cons v (suc s) nan (omega arith),
      drop-cons v (suc (suc s)) nan (omega arith),
      drop-cons v (suc (suc (suc s))) nan (omega arith),
      drop-cons v (suc (suc (suc (suc s)))) nan (omega arith),
    )

fives-is : (l : List TdParam) (v : List Float) (s : ℕ) → ((k : ℕ) → k < length l → get_or l k (five_at [] 0) ≡ five_at v (s + k * 5)) → s + length l * 5 ≤ length v
    → fives l ≡ take (length l * 5) (drop s v)
unfolding fives five_at
fives-is [] v s e h = refl
fives-is (p ∷ l) v s e h =
    let q : p ≡ five_at v s = rw (add-zero s) at (e 0 (omega arith)) in
    let r = suc-mul (length l) 5 in
    rw (r, add_five (length l * 5), drop-five v s (omega arith), ← (fives-is l v (s + 5) (λ k b. e (suc k) (omega arith) ∙ rw (five-next s k)) (omega arith)), q)
  where
    five-next : (s k : ℕ) → s + suc k * 5 ≡ s + 5 + k * 5
    five-next s k = rw (suc-mul k 5) (omega arith)

-- td entries, five each
pub tds-is : (v : List Float) (s n w : ℕ) (f : ℕ → ℕ → TdParam) → ((i j : ℕ) → i < n → j < w → f i j ≡ five_at v (s + (i * w + j) * 5)) → s + n * w * 5 ≤ length v
    → fives (rows n (λ _. w) f) ≡ take (n * w * 5) (drop s v)
tds-is v s n w f e h =
    fives-is (rows n (λ _. w) f) v s
    (λ k b.
    let c : k < n * w = rw (length-table n w f) at b in
    at_place k (in_row_lem (λ _. w) n k (rw (before-table w n) c)))
    (rw (length-table n w f) h)
    ∙ rw (length-table n w f)
  where
    at_place : (k : ℕ) → InRow (λ _. w) n k → get_or (rows n (λ _. w) f) k (five_at [] 0) ≡ five_at v (s + k * 5)
    at_place k r =
        let p : k ≡ r.i * w + r.j = r.place ∙ rw (before-table w r.i) in
        rw p (table_at n w f r.i r.j (five_at [] 0) r.row r.column ∙ e r.i r.j r.row r.column)
