-- Before turn k memory, head and answer are those after the definition's k - from turns.
use Rattle.std.proofs.Common.{◌≡◌, ◌+◌, ◌-◌, ◌*◌, ◌≤◌}
use Rattle.arithmetic.specs.Bytes.{float_at}
use Rattle.mixture.specs.Answers.{answer_of}
use Rattle.mixture.specs.Memory.{memory, after}
use Rattle.repeat.specs.Exports.{set_times}
use Rattle.repeat.proofs.exports.set_each.Given as goal

abbrev pub invariant-loop-k : goal.invariant-loop-k
invariant-loop-k l =
    (l.from ≤ l.k) × (l.k ≤ l.to)
    × (after (memory l.values l.cells l.marks) l.head (answer_of l.answer) ≡ set_times (l.k - l.from) l.change l.model l.v l.q (λ j. float_at l.temperatures (8 * (l.from + j))) (after (memory l.initial.values l.initial.cells l.initial.marks) l.initial.head (answer_of l.initial.answer)))
