-- Fields spelled one after the other are lines of rows, so a call accepts exactly a matrix of n rows.
use mathlib.Core.Path.{◌≡◌, refl, sym, ap, ◌∙◌}
use mathlib.Core.Bool.{Bool, true, false, cond, ◌&&◌}
use mathlib.Core.List.{List, [], ◌∷◌, ◌++◌, append_assoc}
use Prim.Native.Nat.{ℕ, zero, suc, ◌+◌, ◌*◌, ◌%◌, ◌≤◌, ◌<◌}
use native.Mathlib.Nat.{zero-mul, suc-mul, add-zero}
use native.Mathlib.Omega.{arith}
use lib.Arith.{digits_mod}
use lib.Dec.{eqb, leb}
use lib.ListN.{length, take, drop, length-append, length-drop, take-append-drop}
use lib.Seq.{length-take-le}
use lib.Ieee.{Float}
use borrow.Author.Tests.{eq-eqb, ne_eqb, le-leb, eqb-true, leb-true}
use Rattle.models.specs.Faults.{shape_fault}
use Rattle.models.specs.Suppliers.{comma, line_feed, separator, text_fault, text_values, import_fault, imported}
use Rattle.models.specs.SupplierForms.{Spelled, value_as, row, lines, Wide, Matrix, row_values, values_as}
use Rattle.models.specs.SupplierForms.{Shaped, Accepts, OnlyMatrices}
use Rattle.models.proofs.suppliers.Spelling.{spelled, spelled_faultless, spelled-values, only-spelled}
use Rattle.models.proofs.suppliers.Spelling.{both_0, empty}

-- the fields by rows
abbrev fields : List (List Spelled) → List Spelled
fields [] = []
fields (r ∷ rows) = r ++ fields rows

-- ---- what ends a field that whole rows of n follow, and before them j fields of its own row

feed_after : (n k m : ℕ) → 0 < n → m ≡ k * n → separator n m ≡ line_feed
feed_after n k m h e =
    let z : m % n ≡ 0 = ap (λ (x : ℕ). x % n) (e ∙ sym (add-zero (k * n))) ∙ digits_mod k h in
    rw (eq-eqb (m % n) 0 z)

comma-after : (n k j m : ℕ) → 0 < j → j < n → m ≡ k * n + j → separator n m ≡ comma
comma-after n k j m some h e =
    let z : m % n ≡ j = ap (λ (x : ℕ). x % n) e ∙ digits_mod k h in
    rw (ne_eqb (m % n) 0 (λ q. omega arith))

spelled-row : (n k : ℕ) (r later : List Spelled) → 0 < length r → length r ≤ n → length later ≡ k * n
    → spelled n (r ++ later) ≡ row r ++ line_feed ∷ spelled n later
spelled-row n k [] later some h e = absurd (omega arith)
spelled-row n k (f ∷ []) later some h e =
    ap (λ (b : ℕ). f.bytes ++ b ∷ spelled n later) (feed_after n k (length later) (omega arith) e)
spelled-row n k (f ∷ g ∷ fs) later some h e =
    let follow : length ((g ∷ fs) ++ later) ≡ k * n + suc (length fs) = omega (arith, length-append (g ∷ fs) later) in
    let ended = comma-after n k (suc (length fs)) (length ((g ∷ fs) ++ later)) (omega arith) (omega arith) follow in
    ap (λ (b : ℕ). f.bytes ++ b ∷ spelled n ((g ∷ fs) ++ later)) ended
    ∙ ap (λ (l : List ℕ). f.bytes ++ comma ∷ l) (spelled-row n k (g ∷ fs) later (omega arith) (omega arith) e)
    ∙ sym (append_assoc f.bytes (comma ∷ row (g ∷ fs)) (line_feed ∷ spelled n later))

fields-count : (n : ℕ) (rows : List (List Spelled)) → Wide n rows → length (fields rows) ≡ length rows * n
fields-count n [] w = sym (zero-mul n)
fields-count n (r ∷ rows) w =
    omega (arith, length-append r (fields rows), w.0, fields-count n rows w.1, suc-mul (length rows) n)

spelled-lines : (n : ℕ) (rows : List (List Spelled)) → 1 ≤ n → Wide n rows → spelled n (fields rows) ≡ lines rows
spelled-lines n [] h w = refl
spelled-lines n (r ∷ rows) h w =
    spelled-row n (length rows) r (fields rows) (omega (arith, w.0)) (omega (arith, w.0)) (fields-count n rows w.1)
    ∙ ap (λ (l : List ℕ). row r ++ line_feed ∷ l) (spelled-lines n rows h w.1)

values_of : (rows : List (List Spelled)) → row_values (fields rows) ≡ values_as rows
values_of [] = refl
values_of (r ∷ rows) = go r ∙ ap (λ (l : List Float). row_values r ++ l) (values_of rows)
  where
    go : (fs : List Spelled) → row_values (fs ++ fields rows) ≡ row_values fs ++ row_values (fields rows)
    go [] = refl
    go (f ∷ fs) = ap (λ (l : List Float). value_as f ∷ l) (go fs)

-- ---- k·n fields as k rows of n

pub record Rows (n k : ℕ) (fs : List Spelled) : Type 0 where
  pub rows : List (List Spelled)
  pub count : length rows ≡ k
  pub wide : Wide n rows
  pub are : fields rows ≡ fs

in_rows : (n k : ℕ) (fs : List Spelled) → length fs ≡ k * n → Rows n k fs
in_rows n zero fs e = record { rows = []; count = refl; wide = tt; are = sym (empty fs (e ∙ zero-mul n)) }
in_rows n (suc k) fs e =
    let later : length (drop n fs) ≡ k * n = omega (arith, length-drop n fs, suc-mul k n) in
    let i = in_rows n k (drop n fs) later in
    record {
      rows = take n fs ∷ i.rows;
      count = ap suc i.count;
      wide = (length-take-le n fs (omega (arith, suc-mul k n)), i.wide);
      are = ap (λ (l : List Spelled). take n fs ++ l) i.are ∙ take-append-drop n fs;
    }

-- ---- 2

shape-passes : (n : ℕ) (entries : List Float) → Shaped n entries → shape_fault n (n * n) entries ≡ 0
unfolding shape_fault
shape-passes n entries s = rw (le-leb 1 n s.0, le-leb n 12 s.1, eq-eqb (length entries) (n * n) s.2)

shape-only : (n : ℕ) (entries : List Float) → shape_fault n (n * n) entries ≡ 0 → Shaped n entries
unfolding shape_fault
shape-only n entries z = by_tests (leb 1 n) refl (leb n 12) refl (eqb (length entries) (n * n)) refl z
  where
    by_tests : (a : Bool) → leb 1 n ≡ a → (b : Bool) → leb n 12 ≡ b → (c : Bool) → eqb (length entries) (n * n) ≡ c
        → ◌≡◌ {A = ℕ} (cond (a && b && c) 0 2) 0 → Shaped n entries
    by_tests true p true q true r z = (leb-true 1 n p, leb-true n 12 q, eqb-true (length entries) (n * n) r)
    by_tests true p true q false r z = absurd (omega arith)
    by_tests true p false q c r z = absurd (omega arith)
    by_tests false p b q c r z = absurd (omega arith)

-- ---- a call

module _ (n : ℕ) (entries : List Float) (s : List ℕ) where
  call_passes : Shaped n entries → text_fault n (n * n) s ≡ 0 → import_fault n entries s ≡ 0
  unfolding import_fault
  call_passes h e = rw (shape-passes n entries h, e)

  call_holds : import_fault n entries s ≡ 0 → imported n entries s ≡ text_values (n * n) s
  unfolding imported
  call_holds e = rw e

  call_only : import_fault n entries s ≡ 0 → Shaped n entries × (text_fault n (n * n) s ≡ 0)
  unfolding import_fault
  call_only e = let p = both_0 _ _ e in (shape-only n entries p.0, p.1)

-- a matrix of n rows: n·n fields
module _ (n : ℕ) (rows : List (List Spelled)) (some : 1 ≤ n) (matrix : Matrix n rows) where
  all : length (fields rows) ≡ n * n
  all = fields-count n rows matrix.1 ∙ ap (λ (k : ℕ). k * n) matrix.0

  text : spelled n (fields rows) ≡ lines rows
  text = spelled-lines n rows some matrix.1

  lines_faultless : text_fault n (n * n) (lines rows) ≡ 0
  lines_faultless =
      ap (λ (k : ℕ). text_fault n k (lines rows)) (sym all)
      ∙ ap (text_fault n (length (fields rows))) (sym text)
      ∙ spelled_faultless n (fields rows)

  lines-values : text_values (n * n) (lines rows) ≡ values_as rows
  lines-values =
      ap (λ (k : ℕ). text_values k (lines rows)) (sym all)
      ∙ ap (text_values (length (fields rows))) (sym text)
      ∙ spelled-values n (fields rows)
      ∙ values_of rows

pub accepts : Accepts
accepts n entries rows shaped matrix =
    let passes = call_passes n entries (lines rows) shaped (lines_faultless n rows shaped.0 matrix) in
    (passes, call_holds n entries (lines rows) passes ∙ lines-values n rows shaped.0 matrix)

pub only_matrices : OnlyMatrices
only_matrices n entries s e =
    let p = call_only n entries s e in
    let w = only-spelled n (n * n) s p.1 in
    let r = in_rows n n w.0 w.1 in
    let by_rows = ap (spelled n) (sym r.are) ∙ spelled-lines n r.rows p.0.0 r.wide in
    (p.0, (r.rows, (r.count, r.wide), w.2 ∙ by_rows))
