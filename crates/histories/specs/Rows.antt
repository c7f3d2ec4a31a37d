-- What the program has room for: the places of the memory that a record lends, and its rows.
use Rattle.std.specs.Prelude.{ℕ}

abbrev pub values_room : ℕ
values_room = 5400

abbrev pub cells_room : ℕ
cells_room = 1100

abbrev pub marks_room : ℕ
marks_room = 1100

-- a row of bytes, a row of floats, and the bytes of all three rows
abbrev pub bytes_room : ℕ
bytes_room = 2000

abbrev pub floats_room : ℕ
floats_room = 7000

abbrev pub rows_room : ℕ
rows_room = 65536
