use Rattle.std.proofs.Common.{◌≡◌, take}
use Rattle.arithmetic.specs.Bytes.{floats_at}
use Rattle.arithmetic.proofs.bytes.fill_floats.Given as goal

abbrev pub invariant-loop-k : goal.invariant-loop-k
invariant-loop-k l = take l.k l.v-items ≡ floats_at l.s l.at l.k
