-- `copy`: the entries passed are laid over the other table.
-- Assumes nothing.
use mathlib.Core.Path.{◌≡◌}
use Prim.Native.Nat.{◌≤◌}
use lib.ListN.{length, take}
use Rattle.lists.specs.Lists.{overlay}
use Rattle.tables.proofs.named.copy.Given as goal

abbrev pub invariant-loop-i : goal.invariant-loop-i
invariant-loop-i l = (l.i ≤ l.count) × (length l.into ≡ length l.initial.into) × (l.into ≡ overlay (take l.i l.list) l.initial.into)
