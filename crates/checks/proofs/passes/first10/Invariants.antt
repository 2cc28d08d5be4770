-- `first10`: the invariant: no record before p fails, and the ids before p are marked.
-- Assumes nothing.
use Rattle.lists.specs.Marks.{IsMarked}
use Rattle.component.specs.Record.{record_at}
use Rattle.component.specs.Drawing.{is_component, fails10}
use Rattle.checks.specs.Checks.{id_mark}
use Rattle.checks.proofs.PassesLaws.{NoneBefore}
use Rattle.checks.proofs.passes.first10.Given as goal

abbrev pub invariant-loop-p : goal.invariant-loop-p
invariant-loop-p l =
    NoneBefore (fails10 (record_at l.file)) l.p
    × IsMarked 4096 (is_component (record_at l.file)) (id_mark (record_at l.file)) 0 l.p l.marks
