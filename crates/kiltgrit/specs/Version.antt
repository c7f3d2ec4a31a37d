-- The version: 65536·MAJOR + 256·MINOR + PATCH.
use Rattle.std.specs.Prelude.{ℕ, ◌+◌, ◌*◌}

abbrev pub version : ℕ
version = 65536 * 1 + 256 * 3 + 0
