-- `first13`: the invariant: no record before p fails, and what the records before p enter is marked.
-- Assumes nothing.
use Prim.Native.Nat.{◌/◌}
use lib.ListN.{length}
use Rattle.lists.specs.Marks.{IsMarked}
use Rattle.component.specs.Record.{record_at}
use Rattle.component.specs.Drawing.{fails13}
use Rattle.checks.specs.Checks.{is_entry, entry_mark}
use Rattle.checks.proofs.PassesLaws.{NoneBefore}
use Rattle.checks.proofs.passes.first13.Given as goal

abbrev pub invariant-loop-p : goal.invariant-loop-p
invariant-loop-p l = NoneBefore (fails13 (record_at l.file)) l.p
    × IsMarked 16384 (is_entry (record_at l.file)) (entry_mark (record_at l.file) (length l.file / 24)) 0 l.p l.marks
