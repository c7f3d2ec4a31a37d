-- The loop has written the arguments of the rows above i; a row comes back in the middle of the table, and each place takes
-- its exp.
use mathlib.Core.Path.{◌≡◌, refl, ◌∙◌}
use Prim.Native.Nat.{◌+◌, ◌*◌, ◌-◌, ◌≤◌}
use native.Mathlib.Nat.{mul-le-mul, mul-le-mul_right}
use native.Mathlib.Omega.{arith}
use lib.Ieee.{neg}
use lib.ListN.{length}
use borrow.Rule.Slice.PartMut.{same_len_mid}
use borrow.Author.Rules.{rules}
use Rattle.arithmetic.specs.Floats.{◌⊖◌, ◌⊘◌}
use Rattle.arithmetic.specs.Tables.{grid, flat, Filled}
use Rattle.arithmetic.proofs.TableLaws.{row-end, from-length, filled_none}
use Rattle.models.proofs.ExponentialLaws.{arguments_more, energies-filled}
use Rattle.models.proofs.exponentials.fill_energies.Statement.{statement}
use Rattle.models.proofs.exponentials.fill_energies.Tie as tie

abbrev invariant-loop-i : tie.invariant-loop-i
invariant-loop-i values t n out₀ i₀ out i = (i ≤ n) × (length out ≡ length out₀) × Filled (flat n (λ i j. neg (grid n values i j ⊖ grid n values i i) ⊘ t)) (i * n) out

abbrev decreases-loop-i : tie.decreases-loop-i
decreases-loop-i values t n out₀ i₀ out i = n - i

abbrev entry : tie.In-loop-i invariant-loop-i decreases-loop-i → tie.Start invariant-loop-i decreases-loop-i
entry c = c.before.before.before.before

-- row i ends within the tables, and these within 144 places
ends : (c : tie.In-loop-i invariant-loop-i decreases-loop-i) → let n = (entry c).args.n in (c.loop-i.i * n + n ≤ n * n) × (n * n ≤ 144)
ends c = (row-end _ (entry c).args.n _ c.loop-i-test.true, mul-le-mul (entry c).requires.0 (entry c).requires.0)

loop-i-init : tie.Need-loop-i-init invariant-loop-i decreases-loop-i
loop-i-init c = (omega arith, refl, filled_none (omega arith))

fill_arguments-requires : tie.Need-fill_arguments-requires invariant-loop-i decreases-loop-i
fill_arguments-requires c κs =
    let turn = c.before.before in
    let place = c.loop-i.i * (entry turn).args.n in
    let end = ends turn in
    let row = from-length place (entry turn).args.values.now in
    let out-row = from-length place c.loop-i.out in
    search rules

loop-i-preserved : tie.Need-loop-i-preserved invariant-loop-i decreases-loop-i
loop-i-preserved c =
    let turn = c.before.before.before.before.before in
    let start = entry turn in
    let n = start.args.n in
    let i = c.loop-i.i in
    let out = c.loop-i.out in
    let fill = c.fill_arguments in
    let long = fill.auto.out in (
      omega arith,
      same_len_mid (i * n) (length out - i * n) out fill.new.out long ∙ c.loop-i.invariant.1,
      arguments_more n i start.args.values.now _ out _ _ (omega (arith, ends turn)) c.loop-i-test.true (omega (arith, ends turn))
          (omega (arith, long, from-length (i * n) out, ends turn)) fill.ensures c.loop-i.invariant.2,
    )

overflow_mul-n : tie.Need-overflow_mul-n invariant-loop-i decreases-loop-i
overflow_mul-n c = omega (arith, mul-le-mul c.requires.0 c.requires.0)

returns : tie.Need-returns invariant-loop-i decreases-loop-i
returns c =
    let done = c.before.before in
    energies-filled _ _ _ _ (omega arith) (mul-le-mul_right _ done.loop-i-test.false) done.loop-i.invariant.2 c.exp_each.ensures

pub fill_energies_spec : {M : Type 1} → statement M
fill_energies_spec =
    tie.close
    (tie.spec
    invariant-loop-i
    decreases-loop-i
    loop-i-init
    (λ c. omega (arith, ends c))
    (λ c. omega (arith, ends c))
    (λ c. omega (arith, ends c))
    (λ c. omega (arith, ends c))
    (λ c. omega arith)
    (λ c. omega (arith, ends c.before))
    (λ c. omega (arith, ends c.before))
    (λ c. omega (arith, ends c.before))
    (λ c. omega arith)
    fill_arguments-requires
    (λ c. omega arith)
    (λ c. omega arith)
    loop-i-preserved
    overflow_mul-n
    (λ c κs. omega arith)
    (λ c. c.exp_each.auto.a ∙ c.loop-i.invariant.1)
    returns)
