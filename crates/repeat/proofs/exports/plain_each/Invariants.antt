-- After k turns the last value is that of turn k - 1.
use Rattle.std.proofs.Common.{◌≡◌, ◌≤◌, ◌/◌, ◌*◌, length}
use Rattle.arithmetic.specs.Bytes.{float_at}
use Rattle.models.specs.Model.{given as data_given}
use Rattle.repeat.specs.Exports.{plain_turns}
use Rattle.repeat.proofs.exports.plain_each.Given as goal

abbrev pub invariant-loop-k : goal.invariant-loop-k
invariant-loop-k l =
    (l.k ≤ length l.temperatures / 8) × (l.last ≡ plain_turns l.k (data_given l.given) l.x l.q (λ j. float_at l.temperatures (8 * j)))
