-- Digits that stand first, and the number that digits have.
use Rattle.std.proofs.Common.{◌≡◌, ℕ, suc, ◌+◌, ◌-◌, ◌*◌, ◌^◌, ◌<◌, ◌≤◌, Bool, true, false, cond, not, ◌&&◌, leb, ltb, le_antisymm, List, [], ◌∷◌, ◌++◌, length, get_or, take, sym, refl, ap, ◌∙◌, le_trans, le_of_eq, lt_of_lt_of_le, mul-le-mul_right, mul_assoc, mul_comm, mul-le-mul_left, one-mul, pow-suc, add-one, arith, lit<, length-take-le, take_all, take-suc, pow-add, le-leb, leb-true}
use native.Mathlib.Nat.{pow-le-pow_right}
use borrow.Author.Tests.{lt-leb, ltb-false}
use Rattle.std.specs.Prelude.{Option, Some, None, position}
use Rattle.std.specs.Option.{unwrap_or}
use Rattle.std.proofs.lemmas.List.Sums.{prefix_len-le-length}
use Rattle.std.specs.List.{position_or_len}
use Rattle.std.proofs.lemmas.List.Recursion.{is_position_or_len}
use Rattle.arithmetic.specs.Decimals.{is_digit, digit, leading, valued}

-- ---- digits
pub low_byte : (b : ℕ) → b < 48 → is_digit b ≡ false
low_byte b h = simp (lt-leb 48 b h)

pub high_byte : (b : ℕ) → 57 < b → is_digit b ≡ false
high_byte b h = simp (lt-leb b 57 h, le-leb 48 b (omega arith))

pub digit_byte : (b : ℕ) → 48 ≤ b → b ≤ 57 → is_digit b ≡ true
digit_byte b h k = simp (le-leb 48 b h, le-leb b 57 k)

pub digit_lt : (b : ℕ) → digit b < 10
digit_lt b = go (leb 48 b) (leb b 57) refl refl
  where
    go : (s t : Bool) → leb 48 b ≡ s → leb b 57 ≡ t → cond (s && t) (b - 48) 0 < 10
    go false t p q = lit< tt
    go true false p q = lit< tt
    go true true p q = let h : b ≤ 57 = leb-true b 57 q in omega arith

-- ---- runs
pub leading-position : (s : List ℕ) → leading s ≡ position_or_len (λ b. not (is_digit b)) s
unfolding leading
leading-position s = is_position_or_len leading (λ b. not (is_digit b)) refl (λ b l. step (is_digit b) (leading l)) s
  where
    step : (t : Bool) (n : ℕ) → cond t (suc n) 0 ≡ cond (not t) 0 (1 + n)
    step true n = omega arith
    step false n = refl

first_or_all : (p n : ℕ) → p ≤ n → (t : Bool) → ltb p n ≡ t → unwrap_or (cond t (Some p) None) n ≡ p
first_or_all p n h true e = refl
first_or_all p n h false e = le_antisymm (ltb-false p n e) h

pub leading-first : (s : List ℕ) {first : Option ℕ} {n : ℕ} → first ≡ position (λ b. not (is_digit b)) s → n ≡ unwrap_or first (length s) → n ≡ leading s
leading-first s f e =
    let p = λ (b : ℕ). not (is_digit b) in
    e
    ∙ ap (λ (o : Option ℕ). unwrap_or o (length s)) f
    ∙ first_or_all (position_or_len p s) (length s) (prefix_len-le-length (λ b. not (p b)) s) _ refl
    ∙ sym (leading-position s)

pub leading_le : (s : List ℕ) → leading s ≤ length s
unfolding leading
leading_le [] = omega arith
leading_le (b ∷ s) = go (is_digit b) (leading_le s)
  where
    go : (t : Bool) → leading s ≤ length s → cond t (suc (leading s)) 0 ≤ suc (length s)
    go true h = omega arith
    go false h = omega arith

-- ---- values
pub valued_snoc : (a : ℕ) (l : List ℕ) (b : ℕ) → valued a (l ++ (b ∷ [])) ≡ valued a l * 10 + digit b
unfolding valued
valued_snoc a [] b = refl
valued_snoc a (c ∷ l) b = valued_snoc (a * 10 + digit c) l b

pub valued-none : (a : ℕ) (s : List ℕ) → a ≡ valued a (take 0 s)
unfolding valued
valued-none a s = refl

pub valued-more : (a : ℕ) (s : List ℕ) (k : ℕ) {v d : ℕ} → k < length s → v ≡ valued a (take k s) → d ≡ digit (get_or s k 0) → v * 10 + d ≡ valued a (take (k + 1) s)
valued-more a s k h e f = rw (add-one k, take-suc s k 0, valued_snoc, e, f)

pub valued-done : (a : ℕ) (s : List ℕ) (k : ℕ) {v : ℕ} → length s ≤ k → v ≡ valued a (take k s) → v ≡ valued a s
valued-done a s k h e = e ∙ rw (take_all k s)

-- ---- how large it gets

pub valued-lt : (a : ℕ) (l : List ℕ) → valued a l < (a + 1) * 10 ^ length l
unfolding valued
valued-lt a [] = omega arith
valued-lt a (b ∷ l) =
    let p = 10 ^ length l in
    let d = digit_lt b in
    let m : (a * 10 + digit b + 1) * p ≤ (a + 1) * 10 * p = mul-le-mul_right p (omega arith) in
    let e : (a + 1) * 10 ^ suc (length l) ≡ (a + 1) * 10 * p =
    ap (λ (x : ℕ). (a + 1) * x) (pow-suc 10 (length l) ∙ mul_comm p 10) ∙ sym (mul_assoc (a + 1) 10 p) in
    lt_of_lt_of_le (valued-lt (a * 10 + digit b) l) (le_trans m (le_of_eq (sym e)))

ten_le : (k n : ℕ) → k ≤ n → 10 ^ k ≤ 10 ^ n
ten_le k n h = pow-le-pow_right {n = 10} (lit< tt) h

-- the first k digits of a text for which there is room
pub valued-room : (a : ℕ) (s : List ℕ) (k : ℕ) → k ≤ length s → (a + 1) * 10 ^ length s ≤ 10 ^ 15 → valued a (take k s) < 10 ^ 15
valued-room a s k h r =
    let n : length (take k s) ≤ length s = le_trans (le_of_eq (length-take-le k s h)) h in
    lt_of_lt_of_le (valued-lt a (take k s)) (le_trans (mul-le-mul_left (a + 1) (ten_le (length (take k s)) (length s) n)) r)

-- a text of at most 15 digits, and one that follows it
module _ (a : List ℕ) where
  pub room-first : length a ≤ 15 → (0 + 1) * 10 ^ length a ≤ 10 ^ 15
  room-first h = le_trans (le_of_eq (one-mul (10 ^ length a))) (ten_le (length a) 15 h)

  module _ (b : List ℕ) (h : length a + length b ≤ 15) where
    pub room-second : (valued 0 a + 1) * 10 ^ length b ≤ 10 ^ 15
    room-second =
        let l : valued 0 a + 1 ≤ 10 ^ length a = let x = valued-lt 0 a in let y = one-mul (10 ^ length a) in omega arith in
        le_trans (mul-le-mul_right (10 ^ length b) l)
        (le_trans (le_of_eq (sym (pow-add 10 (length a) (length b)))) (ten_le (length a + length b) 15 h))

    pub fifteen : valued (valued 0 a) b < 10 ^ 15
    fifteen = lt_of_lt_of_le (valued-lt (valued 0 a) b) room-second
