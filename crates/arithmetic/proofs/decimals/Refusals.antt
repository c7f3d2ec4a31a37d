-- A field that is refused has a number, which is never 0.
use Rattle.std.proofs.Common.{◌≡◌, ℕ, Float, ◌+◌, Bool, true, false, cond, eqb, leb, List, [], length, get_or, take, drop, refl, subst, arith}
use Rattle.arithmetic.specs.Refusals.{Answer, Value, Refused}
use Rattle.arithmetic.specs.Decimals.{leading, digits_field, pointed_field, unsigned_field, field_of}

abbrev Fine : Answer Float → Type 0
Fine (Value v) = Unit {0}
Fine (Refused k) = k ≡ 0 → ⊥

either_fine : (t : Bool) (a b : Answer Float) → Fine a → Fine b → Fine (cond t a b)
either_fine true a b p q = p
either_fine false a b p q = q

twelve : Fine (Refused 12)
twelve e = omega arith

thirteen : Fine (Refused 13)
thirteen e = omega arith

digits_fine : (s : Bool) (a b : List ℕ) → Fine (digits_field s a b)
unfolding digits_field
digits_fine s a b = either_fine (leb (length a + length b) 15) _ (Refused 13) tt thirteen

pointed_fine : (s : Bool) (a b : List ℕ) → Fine (pointed_field s a b)
unfolding pointed_field
pointed_fine s a b =
    either_fine (eqb (leading b) 0) (Refused 12) _ twelve
    (either_fine (eqb (leading b) (length b)) _ (Refused 12) (digits_fine s a b) twelve)

unsigned_fine : (s : Bool) (l : List ℕ) → Fine (unsigned_field s l)
unfolding unsigned_field
unsigned_fine s l =
    either_fine (eqb (leading l) 0) (Refused 12) _ twelve
    (either_fine (eqb (leading l) (length l)) (digits_field s l []) _ (digits_fine s l [])
    (either_fine (eqb (get_or l (leading l) 0) 46) _ (Refused 12) (pointed_fine s (take (leading l) l) (drop (leading l + 1) l)) twelve))

field_fine : (l : List ℕ) → Fine (field_of l)
unfolding field_of
field_fine l =
    either_fine (eqb (get_or l 0 0) 45) (unsigned_field true (drop 1 l)) (unsigned_field false l) (unsigned_fine true (drop 1 l)) (unsigned_fine false l)

pub refused-some : (l : List ℕ) → field_of l ≡ Refused 0 → ⊥
refused-some l e = subst Fine e (field_fine l) refl
