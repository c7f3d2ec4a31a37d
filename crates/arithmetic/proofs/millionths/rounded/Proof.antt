-- By how twice the remainder compares with 2^s.
use Rattle.std.proofs.Common.{ℕ, ◌*◌, ◌/◌, ◌%◌, ◌^◌, le_antisymm, div-le_self, add-one, arith, rules}
use Prim.Native.Nat.{Ordering}
use native.Mathlib.Nat.{mod-le}
use Rattle.arithmetic.proofs.millionths.Steps.{power_pos, rounds}
use Rattle.arithmetic.proofs.millionths.rounded.Statement.{statement}
use Rattle.arithmetic.proofs.millionths.rounded.Tie as tie

-- 1 << s, as the machine has it
abbrev p : tie.Start → ℕ
p c = 1 * 2 ^ c.args.s % 18446744073709551616

nonzero_div-w : tie.Need-nonzero_div-w
nonzero_div-w c = power_pos c.args.s c.requires.1

overflow_mul-r : tie.Need-overflow_mul-r
overflow_mul-r c = omega (arith, mod-le c.args.n (p c))

returns-then-r-p : tie.Need-returns-then-r-p
returns-then-r-p c = let a = c.before in rounds Ordering.lt a.args.n a.args.s a.requires.0 a.requires.1 c.if-r-p.true

overflow_add-result : tie.Need-overflow_add-result
overflow_add-result c = let a = c.before.before in omega (arith, div-le_self a.args.n (p a))

returns-then-p-r : tie.Need-returns-then-p-r
returns-then-p-r c = let a = c.before.before in rw (add-one (a.args.n / p a)) (rounds Ordering.gt a.args.n a.args.s a.requires.0 a.requires.1 c.if-p-r.true)

overflow_add-result-2 : tie.Need-overflow_add-result-2
overflow_add-result-2 c = let a = c.before.before in omega (arith, div-le_self a.args.n (p a))

returns : tie.Need-returns
returns c =
    let a = c.before.before in
    rounds Ordering.eq a.args.n a.args.s a.requires.0 a.requires.1 (le_antisymm c.if-p-r.false c.before.if-r-p.false)

pub rounded_spec : {M : Type 1} → statement M
rounded_spec =
    tie.close
    (tie.spec (λ c. search rules) nonzero_div-w nonzero_div-w overflow_mul-r returns-then-r-p overflow_add-result returns-then-p-r overflow_add-result-2 returns)
