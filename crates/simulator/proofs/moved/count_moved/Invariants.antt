-- `count_moved`: the bits of the words so far.
-- Assumes nothing.
use mathlib.Core.Path.{◌≡◌}
use Prim.Native.Nat.{◌*◌, ◌≤◌}
use lib.ListN.{take}
use Rattle.lists.specs.Lists.{total}
use Rattle.simulator.specs.Calls.{bits_set}
use Rattle.simulator.proofs.moved.count_moved.Given as goal

abbrev pub invariant-loop-word : goal.invariant-loop-word
invariant-loop-word l = (l.moved ≤ 64 * l.word-index) × (l.moved ≡ total bits_set (take l.word-index l.word-items))
