-- The words of a strip: document 01, "Strip and program". `word_at` and `float_at` of arithmetic read a word and an f64.
use Rattle.std.specs.Prelude.{ℕ, ◌/◌, ◌%◌, ◌^◌}

-- a strip is at most so many bytes
abbrev pub most_bytes : ℕ
most_bytes = 65536

-- ---- the fields of a head word

-- bits 28 to 31
abbrev pub kind_of : ℕ → ℕ
kind_of w = w / 2 ^ 28

-- bits 0 to 7
abbrev pub i_of : ℕ → ℕ
i_of w = w % 2 ^ 8

-- bits 8 to 15
abbrev pub j_of : ℕ → ℕ
j_of w = w / 2 ^ 8 % 2 ^ 8

-- bits 16 to 27
abbrev pub rest_of : ℕ → ℕ
rest_of w = w / 2 ^ 16 % 2 ^ 12
