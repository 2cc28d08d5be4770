-- `nth_owned`: the invariant: the one sought, with those still to pass, among the records to come is the answer.
-- Assumes nothing.
use mathlib.Core.Path.{◌≡◌}
use Prim.Native.Nat.{◌-◌}
use lib.ListN.{get_or}
use Rattle.lists.specs.Lists.{from, keep}
use Rattle.index.specs.Index.{nth_owned}
use Rattle.component.specs.Record.{owned_as}
use Rattle.component.proofs.ScanLaws.{tested}
use Rattle.index.proofs.nth_owned.Given as goal

abbrev pub invariant-loop-q : goal.invariant-loop-q
invariant-loop-q l =
    get_or (keep (tested l.file (owned_as l.form l.o)) (from l.q (l.n - l.q))) l.left l.n ≡ nth_owned l.file l.n l.form l.first l.o l.k
