-- `is_driven`: one of the wires still to come enters the component exactly if one of all does.
-- Assumes nothing.
use mathlib.Core.Path.{◌≡◌}
use mathlib.Core.Bool.{Bool}
use mathlib.Core.List.{List}
use Prim.Native.Nat.{ℕ, ◌-◌}
use lib.Dec.{eqb}
use Rattle.lists.specs.Lists.{from, any}
use Rattle.tables.specs.Words.{wire_in}
use Rattle.simulator.proofs.edits.is_driven.Given as goal

abbrev pub enters : List ℕ → ℕ → ℕ → Bool
enters ws i k = eqb (wire_in ws k).dst.comp.0 i

abbrev pub invariant-loop-k : goal.invariant-loop-k
invariant-loop-k l =
    any (enters l.wires l.i) (from l.k (l.count - l.k)) ≡ any (enters l.wires l.i) (from 0 l.count)
