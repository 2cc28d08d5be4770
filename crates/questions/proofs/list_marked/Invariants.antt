-- `list_marked`: the list holds the marked ones of the components passed.
-- Assumes nothing.
use mathlib.Core.Path.{◌≡◌}
use Prim.Native.Nat.{◌≤◌}
use lib.ListN.{length}
use Rattle.lists.specs.Lists.{overlay}
use Rattle.questions.specs.Asked.{marked_below}
use Rattle.questions.proofs.list_marked.Given as goal

abbrev pub invariant-loop-j : goal.invariant-loop-j
invariant-loop-j l =
    (l.listed ≤ l.j) × (length l.list ≡ length l.initial.list) × (l.listed ≡ length (marked_below l.marks l.j))
    × (l.list ≡ overlay (marked_below l.marks l.j) l.initial.list)
