-- `strike`: the first entries are those passed without x, and the entries still to come are as they were.
-- Assumes nothing.
use mathlib.Core.Path.{◌≡◌}
use Prim.Native.Nat.{ℕ, ◌≤◌}
use lib.ListN.{length, take, get_or}
use Rattle.lists.specs.Lists.{strike}
use Rattle.tables.proofs.named.strike.Given as goal

abbrev pub invariant-loop-i : goal.invariant-loop-i
invariant-loop-i l =
    (l.i ≤ l.end) × (l.left ≤ l.i) × (length l.list ≡ length l.initial.list) × (take l.left l.list ≡ strike l.x (take l.i l.initial.list))
    × ((k : ℕ) → l.i ≤ k → get_or l.list k 0 ≡ get_or l.initial.list k 0) × (l.end ≤ length l.initial.list)
    × (take l.end l.initial.list ≡ take l.count l.initial.list)
