-- What C gets is what the call leaves.
use mathlib.Core.Path.{◌≡◌, refl}
use mathlib.Core.Bool.{Bool, true, false, cond}
use Prim.Native.Nat.{ℕ}
use lib.Dec.{eqb}
use lib.Ieee.{Float}
use borrow.Author.Tests.{ne_eqb}
use Rattle.arithmetic.specs.Floats.{+0}
use Rattle.mixture.specs.declared.head.Head.{Head}
use Rattle.mixture.specs.Answers.{Answer, number_of, value_of}
use Rattle.kiltgrit.specs.declared.border.CHead.{CHead}
use Rattle.kiltgrit.specs.Border.{head_of, c_head, count_of, reply, reply_of}

-- the two cases of a reply
pub refused-reply : (c : CHead) (h : Head) (a : Answer) {k : ℕ} → k ≡ number_of a → (k ≡ 0 → ⊥) → reply c +0 0 k ≡ reply_of c h a
unfolding reply_of
refused-reply c h a {k} e f = rw (← e, ne_eqb k 0 f)

pub done-reply : (c : CHead) (h : Head) (a : Answer) {k n : ℕ} {d : CHead} {v : Float} → k ≡ number_of a → k ≡ 0 → d ≡ c_head h → v ≡ value_of a
    → n ≡ count_of a → reply d v n 0 ≡ reply_of c h a
unfolding reply_of
done-reply c h a e f g i j = rw (← e, f, g, i, j)

flag-back : (b : Bool) → eqb (cond b 1 0) 1 ≡ b
flag-back true = refl
flag-back false = refl

-- a head comes back from C as it went
pub head_crosses : (h : Head) → head_of (c_head h) ≡ h
unfolding head_of c_head
head_crosses h = rw (flag-back h.has_t, flag-back h.has_x) refl
