use Rattle.std.proofs.Common.{◌≡◌, ℕ, List, take, drop, ap, ◌∙◌, arith}
use Rattle.arithmetic.specs.Decimals.{pointed_field}
use Rattle.arithmetic.specs.Refusals.{number, answer_of}
use Rattle.arithmetic.proofs.decimals.Texts.{leading_le}
use Rattle.arithmetic.proofs.decimals.Cases.{unsigned_none, whole-text, other_byte, behind-point}
use Rattle.arithmetic.proofs.decimals.unsigned.Goals as goal

pub returns-then-i-eq0 : goal.returns-then-i-eq0
unfolding answer_of number
returns-then-i-eq0 c = unsigned_none c.args.minus c.args.s.now (omega arith)

pub split_at-requires : goal.split_at-requires
split_at-requires c = let h = leading_le c.args.s.now in omega arith

front : {i n : ℕ} (s : List ℕ) {a : List ℕ} → a ≡ take i s → i ≡ n → a ≡ take n s
front s e h = e ∙ ap (λ (k : ℕ). take k s) h

back : {i n : ℕ} (s : List ℕ) {a : List ℕ} → a ≡ drop i s → i ≡ n → a ≡ drop n s
back s e h = e ∙ ap (λ (k : ℕ). drop k s) h

pub returns-then-is_empty : goal.returns-then-is_empty
returns-then-is_empty c =
    let s = c.args.s.now in
    let i = c.leading-i.ensures in
    c.digits.ensures ∙ whole-text c.args.minus s (λ z. c.if-i-eq0.false (i ∙ z)) (front s c.split_at.ensures.front i) (back s c.split_at.ensures.back i) c.if-is_empty.ensures

pub returns-in-Some : goal.returns-in-Some
returns-in-Some c =
    let s = c.args.s.now in
    let i = c.leading-i.ensures in
    let h = c.in-Some.ensures.cases in
    c.pointed.ensures
    ∙ ap (pointed_field c.args.minus c.split_at.result.0.now) h.1
    ∙ behind-point c.args.minus s (λ z. c.if-i-eq0.false (i ∙ z)) (front s c.split_at.ensures.front i) (back s c.split_at.ensures.back i) c.if-is_empty.ensures h.0

pub returns-in-None : goal.returns-in-None
unfolding answer_of number
returns-in-None c =
    let s = c.args.s.now in
    let i = c.leading-i.ensures in
    other_byte c.args.minus s (λ z. c.if-i-eq0.false (i ∙ z)) (front s c.split_at.ensures.front i) (back s c.split_at.ensures.back i) c.if-is_empty.ensures c.in-None.ensures.cases
