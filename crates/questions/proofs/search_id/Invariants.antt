-- `search_id`: what is found among the components still to come is what is found among all.
-- Assumes nothing.
use mathlib.Core.Path.{◌≡◌}
use mathlib.Core.Bool.{Bool}
use mathlib.Core.List.{List}
use Prim.Native.Nat.{ℕ, ◌-◌}
use lib.Dec.{eqb}
use Rattle.lists.specs.Lists.{from, first}
use Rattle.tables.specs.Words.{id_in}
use Rattle.questions.proofs.search_id.Given as goal

abbrev pub has_id : List ℕ → ℕ → ℕ → Bool
has_id cs id i = eqb (id_in cs i) id

abbrev pub invariant-loop-i : goal.invariant-loop-i
invariant-loop-i l =
    first (has_id l.components l.id.0) (from l.i (l.count - l.i)) ≡ first (has_id l.components l.id.0) (from 0 l.count)
