-- Texts stored one after the other, and the digits of numbers.
use Prim.Native.Nat.{ℕ, zero, suc, ◌+◌, ◌-◌, ◌/◌, ◌^◌, ◌<◌, ◌≤◌}
use native.Mathlib.Nat.{add-zero, zero-add, pow-succ', pow-le-pow_right}
use native.Mathlib.Omega.{arith}
use mathlib.Core.Path.{◌≡◌, refl, sym, ap, ◌∙◌, subst}
use mathlib.Core.Bool.{Bool, true, false, cond}
use mathlib.Core.List.{List, [], ◌∷◌, ◌++◌, append_assoc}
use mathlib.Core.Logic.{inl, inr}
use lib.Dec.{T}
use lib.ListN.{length, take, drop, set, length-append}
use lib.Seq.{sets, sets-eq, set_out, length-sets, take_at, length-take-le}
use borrow.Rule.Slice.PartMut.{put_mid}
use Rattle.std.proofs.Common.{min, take_all}
use Rattle.std.proofs.lemmas.List.{take-append-drop, drop_all}
use Rattle.std.proofs.lemmas.Slice.{put_mid-paste}
use lib.Ieee.{Float, binary64, is_nan, ne, to_bits, fits}
use lib.Ieee.Bits.{to_bits-lt}
use lib.Ieee.Compare.{differs_from_itself}
use borrow.Author.Tests.{lt-ltb, le-ltb}
use Rattle.arithmetic.proofs.Tests.{le-or}
use Rattle.io.specs.Digits.{last_digits, IsDigitCount}
use Rattle.std.specs.Prelude.{Result, Ok, Err}
use Rattle.arithmetic.specs.declared.refusal.Refusal.{Refusal}
use Rattle.arithmetic.specs.Refusals.{number}
use Rattle.mixture.specs.declared.answers.Outcome.{Outcome}
use Rattle.mixture.specs.declared.answers.Outcome.TheVariants.{Done as Finished, Value as Worked}
use Rattle.mixture.specs.Answers.{Answer, Refused, Done, Value, answer_of, outcome_of}
use Rattle.arithmetic.proofs.ByteLaws.{no_nan}
use Rattle.strip.specs.Text.{ascii, places_to, decimal, value_text, line, Put}

-- ---- one text after another

pub sets-append : (l : List ℕ) (i : ℕ) (a b : List ℕ) → sets l i (a ++ b) ≡ sets (sets l i a) (i + length a) b
sets-append l i [] b = rw (add-zero i)
sets-append l i (x ∷ a) b = sets-append (set l i x) (suc i) a b ∙ ap (λ (k : ℕ). sets (sets (set l i x) (suc i) a) k b) (omega arith)

-- a text at the start, and one right after it
put_then : {l l₁ l₂ a b : List ℕ} {p q : ℕ} → Put l 0 a p l₁ → Put l₁ p b q l₂ → Put l 0 (a ++ b) (p + q) l₂
put_then {l} {l₁} {l₂} {a} {b} {p} {q} x y =
    record {
      long = rw (length-append a b) (omega (arith, x.long, y.long));
      text = y.text ∙ (rw (x.text, x.long) (sym (sets-append l 0 a b ∙ rw (zero-add (length a)))));
    }

-- a text past the end
sets-past : (l : List ℕ) (p : ℕ) (t : List ℕ) → length l ≤ p → sets l p t ≡ l
sets-past l p [] h = refl
sets-past l p (x ∷ t) h = rw (set_out l p x h) (sets-past l (suc p) t (omega arith))

pub put-past : (l : List ℕ) (p : ℕ) (t : List ℕ) → length l ≤ p → Put l p t (length t) l
put-past l p t h = record { long = refl; text = sym (sets-past l p t h) }

-- the first n bytes of a text, all that there are or all that there is room for
sets-front : (l : List ℕ) (p : ℕ) (t : List ℕ) (n : ℕ) → n ≡ min (length t) (length l - p) → sets (sets l p (take n t)) (p + length (take n t)) (drop n t) ≡ sets l p (take n t)
sets-front l p t n e =
    let q : length (take n t) ≡ n = length-take-le n t (omega arith) in
    elim (le-or (length t) n) [
      | inl h ↦ rw (drop_all n t h)
      | inr h ↦ sets-past (sets l p (take n t)) (p + length (take n t)) (drop n t) (omega (arith, q, length-sets l p (take n t)))
    ]

pub put-front : (l : List ℕ) (p : ℕ) (t : List ℕ) (n k : ℕ) {b : List ℕ} → p < length l → n ≡ min (length t) (length l - p) → k ≡ n → b ≡ take n t → Put l p t (length t) (put_mid p k l b)
put-front l p t n k {b} h e f g =
    let q : length (take n t) ≡ n = length-take-le n t (omega arith) in
    record {
      long = refl;
      text =
          put_mid-paste p k l b (take n t) n g (sym f) (sym q)
          ∙ rw (take_all n (take n t) (omega arith)) (subst (λ (z : ℕ). take p l ++ take n t ++ drop (p + z) l ≡ sets l p (take n t)) q (sym (sets-eq (take n t) l p (omega arith))))
          ∙ sym (sets-front l p t n e) ∙ sym (sets-append l p (take n t) (drop n t)) ∙ ap (sets l p) (take-append-drop n t);
    }

pub put_same : {l l₁ a b : List ℕ} {p q : ℕ} → Put l p a q l₁ → a ≡ b → Put l p b q l₁
put_same {l} {l₁} {a} {b} {p} {q} x e = subst (λ (z : List ℕ). Put l p z q l₁) e x

-- in a buffer that is long enough it stands whole
pub sets-whole : (A : Type 0) (l : List A) (k : ℕ) (t : List A) (n : ℕ) → n ≡ length t → k + n ≤ length l → take (k + n) (sets l k t) ≡ take k l ++ t
sets-whole A l k t n e h =
    rw (sets-eq t l k (omega arith))
    (take_at (take k l ++ t) (drop (k + length t) l) (k + n) (length-append (take k l) t ∙ omega (arith, length-take-le k l (omega arith))))

pub put_whole : {l t l' : List ℕ} {r : ℕ} → Put l 0 t r l' → r ≤ length l → take r l' ≡ t
put_whole {l} {t} {l'} {r} p h =
    rw p.text (subst (λ (z : ℕ). take z (sets l 0 t) ≡ t) (zero-add r) (sets-whole ℕ l 0 t r p.long (omega arith)))

-- ---- decimal numbers

less : (k n : ℕ) → 10 ^ (suc (suc k) - 1) ≤ n → 10 ^ suc k ≤ n
less k n h = let e : suc (suc k) - 1 ≡ suc k = omega arith in subst (λ (z : ℕ). 10 ^ z ≤ n) e h

more : (k n : ℕ) → 10 ^ k ≤ n → 10 ^ (suc k - 1) ≤ n
more k n h = let e : k ≡ suc k - 1 = omega arith in subst (λ (z : ℕ). 10 ^ z ≤ n) e h

one_place : (n k : ℕ) → n < 10 → IsDigitCount 10 1 n (suc (suc k)) → ⊥
one_place n k h f =
    let a : 10 ^ suc k ≤ n = less k n (f.2 (omega arith)) in
    let b : 10 ^ 1 ≤ 10 ^ suc k = pow-le-pow_right {n = 10} (omega arith) {i = 1} {j = suc k} (omega arith) in
    omega arith

places_is : (f n k : ℕ) → n < 10 ^ suc f → IsDigitCount 10 1 n k → places_to f n ≡ k
unfolding places_to
places_is f n zero h w = let z = w.0 in absurd (omega arith)
places_is zero n (suc zero) h w = refl
places_is zero n (suc (suc k)) h w = absurd (one_place n k h w)
places_is (suc f) n (suc zero) h w = rw (lt-ltb n 10 w.1)
places_is (suc f) n (suc (suc k)) h w =
    elim (le-or 10 n) [
      | inl l ↦
          let a : 10 ^ suc k ≤ n = less k n (w.2 (omega arith)) in
          rw (le-ltb n 10 l)
          (ap suc
          (places_is f (n / 10) (suc k)
          (omega (arith, pow-succ' 10 (suc f)))
          (omega arith, omega (arith, pow-succ' 10 (suc k), w.1), λ m. more k (n / 10) (omega (arith, pow-succ' 10 k)))))
      | inr l ↦ absurd (one_place n k l w)
    ]

decimal-is : (n k : ℕ) → n < 18446744073709551616 → IsDigitCount 10 1 n k → last_digits 10 k n ≡ decimal n
unfolding decimal
decimal-is n k h w = rw (places_is 19 n k (omega arith) w)

places-le : (f n : ℕ) → places_to f n ≤ suc f
unfolding places_to
places-le zero n = omega arith
places-le (suc f) n =
    elim (le-or 10 n) [
      | inl l ↦ rw (le-ltb n 10 l) (omega (arith, places-le f (n / 10)))
      | inr l ↦ rw (lt-ltb n 10 l) (omega arith)
    ]

length_digits : (b k n : ℕ) → length (last_digits b k n) ≡ k
length_digits b zero n = refl
length_digits b (suc k) n = simp (length-append, length_digits b k (n / b)) (omega arith)

decimal-short : (n : ℕ) → length (decimal n) ≤ 20
unfolding decimal
decimal-short n = rw (length_digits 10 (places_to 19 n) n) (places-le 19 n)

-- ---- values

hex_places : (n k : ℕ) → n < 18446744073709551616 → IsDigitCount 16 16 n k → k ≡ 16
hex_places n k h w =
    elim (le-or k 16) [
      | inl l ↦ omega (arith, w.0)
      | inr l ↦
          let a : 16 ^ (k - 1) ≤ n = w.2 l in
          let b : 16 ^ 16 ≤ 16 ^ (k - 1) = pow-le-pow_right {n = 16} (omega arith) {i = 16} {j = k - 1} (omega arith) in
          absurd (omega arith)
    ]

value_nan : (v : Float) → ne v v ≡ true → ascii "nan" ≡ value_text v
unfolding value_text is_nan
value_nan v e = rw (differs_from_itself v (subst T (sym e) tt))

value_bits : (v : Float) → ne v v ≡ false → (k : ℕ) → k ≡ 16 → last_digits 16 k (to_bits binary64 v) ≡ value_text v
unfolding value_text
value_bits v e k q = rw (no_nan v e, q)

value-short : (v : Float) → length (value_text v) ≤ 16
unfolding value_text
value-short v = go (is_nan v)
  where
    go : (t : Bool) → length (cond t (ascii "nan") (last_digits 16 16 (to_bits binary64 v))) ≤ 16
    go true = omega arith
    go false = rw (length_digits 16 16 (to_bits binary64 v)) (omega arith)

pub bits_lt : (v : Float) → T (fits binary64 v) → to_bits binary64 v < 18446744073709551616
bits_lt v h = to_bits-lt binary64 v h

-- ---- what the digit writers leave, stored

pub put-digits : {l l₁ a : List ℕ} {p q : ℕ} (n k : ℕ) → n < 18446744073709551616 → IsDigitCount 10 1 n k → a ≡ last_digits 10 k n → Put l p a q l₁
    → Put l p (decimal n) q l₁ × (q ≤ 20)
put-digits n k h w e x =
    (put_same x (e ∙ decimal-is n k h w), omega (arith, x.long, ap length (e ∙ decimal-is n k h w), decimal-short n))

pub put_bits : {l l₁ a : List ℕ} {p q : ℕ} (v : Float) (k : ℕ) → ne v v ≡ false → to_bits binary64 v < 18446744073709551616
    → IsDigitCount 16 16 (to_bits binary64 v) k → a ≡ last_digits 16 k (to_bits binary64 v) → Put l p a q l₁ → Put l p (value_text v) q l₁ × (q ≤ 16)
put_bits v k d h w e x =
    let t = e ∙ value_bits v d k (hex_places (to_bits binary64 v) k h w) in
    (put_same x t, omega (arith, x.long, ap length t, value-short v))

pub put_nan : {l l₁ : List ℕ} {p q : ℕ} (v : Float) → ne v v ≡ true → Put l p (ascii "nan") q l₁ → Put l p (value_text v) q l₁ × (q ≤ 16)
put_nan v d x = (put_same x (value_nan v d), omega (arith, x.long))

-- ---- the three kinds of line

pub done_is : {a : Result Outcome Refusal} {o : Outcome} → a ≡ Ok o → o ≡ Finished → answer_of a ≡ Done
unfolding answer_of outcome_of
done_is e f = rw (e, f)

pub value_is : {a : Result Outcome Refusal} {o : Outcome} → a ≡ Ok o → {v : Float} {n : ℕ} → o ≡ Worked v n → answer_of a ≡ Value v n
unfolding answer_of outcome_of
value_is e f = rw (e, f)

pub refused_is : {a : Result Outcome Refusal} {r : Refusal} → a ≡ Err r → {k : ℕ} → k ≡ number r → answer_of a ≡ Refused k
unfolding answer_of
refused_is e f = rw (e, f)

pub line-done : {l l₁ : List ℕ} {q : ℕ} {a : Answer} → a ≡ Done → Put l 0 (ascii "ok\n") q l₁ → Put l 0 (line a) q l₁ × (q ≤ 40)
unfolding line
line-done e x = rw e (x, omega (arith, x.long))

pub line_refused : {l l₁ l₂ l₃ : List ℕ} {p q r : ℕ} {a : Answer} (k : ℕ) → a ≡ Refused k
    → Put l 0 (ascii "refused ") p l₁ → Put l₁ p (decimal k) q l₂ × (q ≤ 20) → Put l₂ (p + q) (ascii "\n") r l₃
    → Put l 0 (line a) (p + q + r) l₃ × (p + q + r ≤ 40)
unfolding line
line_refused k e x y w =
    rw e (put_same (put_then (put_then x y.0) w) (append_assoc (ascii "refused ") (decimal k) (ascii "\n")), omega (arith, x.long, y.1, w.long))

pub line-value : {l l₁ l₂ l₃ l₄ : List ℕ} {p q r t : ℕ} {a : Answer} (v : Float) (n : ℕ) → a ≡ Value v n
    → Put l 0 (value_text v) p l₁ × (p ≤ 16) → Put l₁ p (ascii " ") q l₂ → Put l₂ (p + q) (decimal n) r l₃ × (r ≤ 20) → Put l₃ (p + q + r) (ascii "\n") t l₄
    → Put l 0 (line a) (p + q + r + t) l₄ × (p + q + r + t ≤ 40)
unfolding line
line-value v n e x b y w =
    rw e (put_same (put_then (put_then (put_then x.0 b) y.0) w) parts, omega (arith, x.1, b.long, y.1, w.long))
  where
    parts : ((value_text v ++ ascii " ") ++ decimal n) ++ ascii "\n" ≡ value_text v ++ (ascii " " ++ (decimal n ++ ascii "\n"))
    parts = append_assoc (value_text v ++ ascii " ") (decimal n) (ascii "\n") ∙ append_assoc (value_text v) (ascii " ") (decimal n ++ ascii "\n")

-- a line that stands at the start of a local, stored
pub put-line : {z z' l l₁ : List ℕ} {p q : ℕ} (a : Answer) (k : ℕ) → Put z 0 (line a) k z' × (k ≤ 40) → k ≤ length z → Put l p (take k z') q l₁
    → Put l p (line a) q l₁ × (q ≤ 40)
put-line a k x h y =
    let e = put_whole x.0 h in
    (put_same y e, omega (arith, y.long, ap length e, x.0.long, x.1))
