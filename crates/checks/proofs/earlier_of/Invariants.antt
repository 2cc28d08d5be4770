-- `earlier_of`: the invariant: the first of the records to come that enters the input is the answer.
-- Assumes nothing.
use mathlib.Core.Path.{◌≡◌}
use Prim.Native.Nat.{◌-◌}
use lib.ListN.{get_or}
use Rattle.lists.specs.Lists.{from, keep}
use Rattle.component.specs.Record.{record_at}
use Rattle.component.specs.Reading.{enters}
use Rattle.component.specs.Drawing.{earlier_of}
use Rattle.component.proofs.ScanLaws.{tested}
use Rattle.checks.proofs.earlier_of.Given as goal

abbrev pub invariant-loop-q : goal.invariant-loop-q
invariant-loop-q l =
    get_or (keep (tested l.file (enters l.entry.owner l.entry.to.0 l.entry.input)) (from l.q (l.p - l.q))) 0 l.p ≡ earlier_of (record_at l.file) l.p
