-- `child_named`: the first child of the id among the records to come is the answer.
-- Assumes nothing.
use mathlib.Core.Path.{◌≡◌}
use Prim.Native.Nat.{◌-◌}
use lib.ListN.{get_or}
use Rattle.lists.specs.Lists.{from, keep}
use Rattle.component.specs.Record.{record_at, record_count}
use Rattle.boxes.specs.Boxes.{child_named}
use Rattle.boxes.specs.Naming.{named}
use Rattle.boxes.proofs.path.child_named.Given as goal

abbrev pub invariant-loop-q : goal.invariant-loop-q
invariant-loop-q l =
    get_or (keep (named (record_at l.file) l.c l.id.0) (from l.q (l.n - l.q))) 0 l.n ≡ child_named (record_at l.file) (record_count l.file) l.c l.id.0
