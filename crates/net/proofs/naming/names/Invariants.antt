-- `names`: the entries still to come name components that are fresh exactly if all name components and none stands
-- twice.
-- Assumes nothing.
use mathlib.Core.Path.{◌≡◌}
use mathlib.Core.Bool.{◌&&◌}
use Prim.Native.Nat.{◌≤◌}
use lib.ListN.{length, take}
use lib.Seq.{slice}
use lib.Dec.{ltb}
use Rattle.lists.specs.Lists.{every, distinct}
use Rattle.net.proofs.MarksLaws.{naming}
use Rattle.net.proofs.naming.names.Given as goal

abbrev pub invariant-loop-entry : goal.invariant-loop-entry
invariant-loop-entry l =
    (l.entry-index ≤ l.count) × (length l.seen ≡ 256)
    × (naming l.n l.seen (slice l.entry-index l.count l.list) ≡ (every (λ x. ltb x l.n) (take l.count l.list) && distinct (take l.count l.list)))
