-- What an entry E_ij reads, the rows of arguments that make a table, and exp of each place.
use mathlib.Core.Path.{◌≡◌, refl, sym, ap, ◌∙◌}
use mathlib.Core.Bool.{Bool, true, false, cond}
use mathlib.Core.List.{List, ◌++◌}
use Prim.Native.Nat.{ℕ, ◌+◌, ◌*◌, ◌-◌, ◌<◌, ◌≤◌}
use native.Mathlib.Omega.{arith}
use lib.Dec.{eqb}
use lib.ListN.{length, take}
use lib.Ieee.{Float, neg}
use borrow.Author.Tests.{eqb-false}
use Rattle.arithmetic.specs.Exponential.{exp_of}
use Rattle.arithmetic.specs.Floats.{◌⊖◌, ◌⊘◌}
use Rattle.arithmetic.specs.Tables.{at, grid, from, flat, Filled, up_to}
use Rattle.arithmetic.proofs.TableLaws.{row_next, flat-cell, filled-less, from_at, upto_below, back-before, back-within, by_place}
use Rattle.models.specs.Exponentials.{energy}
use Rattle.models.specs.Values.{energies}

-- ---- an entry

-- E_ij reads a_ij, a_ii and T alone
pub energy-same : (a b : ℕ → ℕ → Float) (T U : Float) (i j : ℕ) → a i j ≡ b i j → a i i ≡ b i i → T ≡ U → energy a T i j ≡ energy b U i j
unfolding energy
energy-same a b T U i j p q r = rw (p, q, r)

-- the part that starts at row i gives the table's entry
pub energy-row : (n : ℕ) (l : List Float) (T : Float) (i j : ℕ) → i * n + n ≤ length l → i < n → j < n → energy (λ _. at (from (i * n) l)) T i j ≡ energy (energies n l) T i j
unfolding energies
energy-row n l T i j h b c = energy-same _ _ T T i j (from_at l (i * n) j (omega arith)) (from_at l (i * n) i (omega arith)) refl

-- ---- a table of arguments, row after row, then exp of each place

-- the places from s on come back as ys, in the middle of g
pub part-more : (F : ℕ → Float) (s n : ℕ) (g ys rest : List Float) → s ≤ length g → n ≤ length ys → Filled F s g → ((k : ℕ) → k < n → at ys k ≡ F (s + k)) → Filled F (s + n) (take s g ++ (ys ++ rest))
part-more F s n g ys rest h l all row = record {
  each = λ k b.
      by_place k s
      (λ c. back-before s g ys rest k h c ∙ all.each k c)
      (λ e. within k b (omega arith))
      (λ d. within k b (omega arith));
}
  where
    within : (k : ℕ) → k < s + n → s ≤ k → at (take s g ++ (ys ++ rest)) k ≡ F k
    within k b c =
        let e : k ≡ s + (k - s) = omega arith in
        ap (at (take s g ++ (ys ++ rest))) e ∙ back-within s g ys rest (k - s) h (omega arith) ∙ row (k - s) (omega arith) ∙ ap F (sym e)

-- the row i of arguments, read off the part that starts there
pub arguments_more : (n i : ℕ) (l : List Float) (T : Float) (g ys rest : List Float) → i * n + n ≤ length l → i < n → i * n ≤ length g → n ≤ length ys →
    Filled (λ j. neg (at (from (i * n) l) j ⊖ at (from (i * n) l) i) ⊘ T) n ys → Filled (flat n (λ i j. neg (grid n l i j ⊖ grid n l i i) ⊘ T)) (i * n) g →
    Filled (flat n (λ i j. neg (grid n l i j ⊖ grid n l i i) ⊘ T)) ((i + 1) * n) (take (i * n) g ++ (ys ++ rest))
arguments_more n i l T g ys rest h b k y row all =
    rw (row_next n i)
    (part-more _ (i * n) n g ys rest k y all
    (λ j c. row.each j c ∙ (rw (from_at l (i * n) j (omega arith), from_at l (i * n) i (omega arith)) (sym (flat-cell n (λ i j. neg (grid n l i j ⊖ grid n l i i) ⊘ T) i j c)))))

-- f of each of the first n places
pub each-filled : (f : Float → Float) (n : ℕ) (old : ℕ → Float) {A E : ℕ → Float} {p : ℕ} {g g' : List Float} → n ≤ p → ((k : ℕ) → k < n → f (A k) ≡ E k) →
    Filled A n g → Filled (up_to n (λ k. f (at g k)) old) p g' → Filled E n g'
each-filled f n old h e args all = record {
  each = λ k b. all.each k (omega arith) ∙ upto_below n _ old k b ∙ ap f (args.each k b) ∙ e k b;
}

pub energies-filled : (n : ℕ) (l : List Float) (T : Float) (old : ℕ → Float) {p m : ℕ} {g g' : List Float} → n * n ≤ p → n * n ≤ m →
    Filled (flat n (λ i j. neg (grid n l i j ⊖ grid n l i i) ⊘ T)) m g → Filled (up_to (n * n) (λ k. exp_of (at g k)) old) p g' → Filled (flat n (energy (energies n l) T)) (n * n) g'
unfolding energy energies flat
energies-filled n l T old h k args all = each-filled exp_of (n * n) old h (λ k b. refl) (filled-less k args) all

-- ---- a definition that ignores the diagonal

pub off_diagonal : (i j : ℕ) (d a b : Float) → ((i ≡ j → ⊥) → a ≡ b) → cond (eqb i j) d a ≡ cond (eqb i j) d b
off_diagonal i j d a b e = by_test (eqb i j) refl
  where
    by_test : (t : Bool) → eqb i j ≡ t → cond t d a ≡ cond t d b
    by_test true p = refl
    by_test false p = e (eqb-false i j p)
