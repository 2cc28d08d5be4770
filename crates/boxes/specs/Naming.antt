-- A word of the search by id, which only shortens what `child_named` (specs/Boxes) says. Nobody has to believe it.
--   named at c id q    the record at q is a child of component c that has the id
-- Assumes nothing.
use Rattle.std.specs.Prelude.{ℕ, Bool, ◌&&◌, eqb}
use Rattle.component.specs.declared.Record.{Record}
use Rattle.component.specs.Record.{owned_as}

abbrev pub named : (ℕ → Record) → ℕ → ℕ → ℕ → Bool
named at c id q = owned_as 1 c (at q) && eqb (at q).id id
