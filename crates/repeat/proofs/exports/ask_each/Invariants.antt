-- After so many queries memory and last reply are the definition's.
use Rattle.std.proofs.Common.{◌≡◌, ◌≤◌}
use Rattle.mixture.specs.Memory.{memory, left}
use Rattle.repeat.specs.Exports.{asked_times}
use Rattle.repeat.proofs.exports.ask_each.Given as goal

abbrev pub invariant-loop : goal.invariant-loop
invariant-loop l =
    (l.counter ≤ l.times) × (left (memory l.values l.cells l.marks) l.last ≡ asked_times l.counter l.q (left (memory l.initial.values l.initial.cells l.initial.marks) l.initial.last))
