-- `link_by`: the wires behind are linked in the order that was handed in.
-- Assumes nothing.
use mathlib.Core.Path.{◌≡◌}
use Prim.Native.Nat.{◌≤◌}
use lib.ListN.{length, take}
use lib.Seq.{slice}
use Rattle.rounds.specs.Links.{IsLinked}
use Rattle.rounds.proofs.links.link_by.Given as goal

abbrev pub invariant-loop-entry : goal.invariant-loop-entry
invariant-loop-entry l =
    let left = l.entry-iterator.iter.rest.now in
    (length left ≤ l.count) × (left ≡ take (length left) l.order) × IsLinked l.wires l.count l.head l.after (slice (length left) l.count l.order)
