-- The places passed have their values, the others are as they were.
use Rattle.std.proofs.Common.{◌≡◌, ◌++◌, map, take, drop}
use Rattle.arithmetic.proofs.elementary.each_careful.Given as goal

abbrev pub invariant-loop-v : goal.invariant-loop-v
invariant-loop-v g l =
    l.a ≡ map g.F.Elementary.of (take l.v-index l.initial.a) ++ drop l.v-index l.initial.a
