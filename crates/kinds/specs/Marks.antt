-- The mark of an id, of 4,096, before a search for it. Any function of an id would do: nobody has to believe anything here.
-- Assumes nothing.
use Rattle.std.specs.Prelude.{ℕ, ◌*◌, ◌/◌, ◌%◌}

abbrev pub mark_of : ℕ → ℕ
mark_of id = id * 2654435769 % 4294967296 / 1048576
