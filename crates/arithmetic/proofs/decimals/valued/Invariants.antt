use Rattle.std.proofs.Common.{◌≡◌, take}
use Rattle.arithmetic.specs.Decimals.{valued}
use Rattle.arithmetic.proofs.decimals.valued.Given as goal

abbrev pub invariant-loop-b : goal.invariant-loop-b
invariant-loop-b l = l.v ≡ valued l.fn.a (take l.b-index l.s)
