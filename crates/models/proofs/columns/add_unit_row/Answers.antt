use Rattle.std.proofs.Common.{rules, refl}
use lib.Ieee.{round, of_bits}
use Rattle.arithmetic.specs.Floats.{dec, one}
use Rattle.models.proofs.ColumnLaws.{unit_own}
use Rattle.models.proofs.columns.add_unit_row.Goals as goal

pub returns : goal.returns
unfolding one dec round of_bits
returns c = unit_own _ _ _ _ _ refl (c.add_with_own.ensures _ (λ k b r p. search rules))
