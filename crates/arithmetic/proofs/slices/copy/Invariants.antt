-- After k turns the first k places have been written.
use Rattle.arithmetic.proofs.slices.CopyLaws.{Copied}
use Rattle.arithmetic.proofs.slices.copy.Given as goal

abbrev pub invariant-loop-k : goal.invariant-loop-k
invariant-loop-k g l = Copied l.from l.initial.to l.to l.k
