-- The small lists are answered so: each is computed.
use mathlib.Core.Path.{refl}
use lib.Ieee.{neg, round}
use Rattle.arithmetic.specs.Floats.{one, dec}
use Rattle.arithmetic.specs.Decimals.{leading, valued, digits_field, pointed_field, unsigned_field}
use Rattle.arithmetic.specs.Decimals.{field_of, field_number, field_value}
use Rattle.models.specs.Faults.{shape_fault}
use Rattle.models.specs.Suppliers.{field_length, text_fault, text_values, import_fault, imported}
use Rattle.models.specs.WorkedLists.{Worked}

pub worked : Worked
unfolding imported import_fault shape_fault text_fault text_values field_length
    field_of field_number field_value unsigned_field pointed_field digits_field leading valued one dec round neg
worked = (
  (refl, refl, refl, refl, refl),
  (refl, refl, refl, refl, refl, refl, refl, refl, refl, refl, refl),
  (refl, refl, refl),
  (refl, refl, refl, refl, refl, refl, refl),
  (refl, refl, refl, refl, refl),
  (refl, refl, refl, refl),
  (refl, refl),
)
