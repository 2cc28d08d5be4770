-- `consts_held`: each Const still to come holds its value exactly if each of all does.
-- Assumes nothing.
use mathlib.Core.Path.{◌≡◌}
use Prim.Native.Nat.{◌-◌}
use Rattle.lists.specs.Lists.{from, every}
use Rattle.net.specs.Parts.{held_at}
use Rattle.slow.proofs.preparing.consts_held.Given as goal

abbrev pub invariant-loop-i : goal.invariant-loop-i
invariant-loop-i l =
    every (held_at l.components l.outputs) (from l.i (l.count - l.i)) ≡ every (held_at l.components l.outputs) (from 0 l.count)
