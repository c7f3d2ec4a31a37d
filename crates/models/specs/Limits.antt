-- Document 01's limits.
use Rattle.std.specs.Prelude.{ℕ}

abbrev pub most_components : ℕ
most_components = 12

abbrev pub most_groups : ℕ
most_groups = 32

-- of one list, and of all
abbrev pub most_listed : ℕ
most_listed = 12

abbrev pub most_places : ℕ
most_places = 144

-- of any model
abbrev pub most_values : ℕ
most_values = 5328

-- a table of exponentials by full rows
abbrev pub table_size : ℕ
table_size = 1024

-- components that a record can name: it has a byte for them
abbrev pub most_named : ℕ
most_named = 255
