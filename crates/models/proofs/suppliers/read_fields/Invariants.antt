use Rattle.std.proofs.Common.{◌≤◌, length}
use Rattle.models.proofs.suppliers.Turns.{Left}
use Rattle.models.proofs.suppliers.read_fields.Given as goal

abbrev pub invariant-loop-k : goal.invariant-loop-k
invariant-loop-k l = (l.at ≤ length l.text) × Left l.n l.text l.entries l.k l.at
