-- `first13`: the invariant: no record before p fails, and what the records before p enter is marked.
-- Assumes nothing.
use Prim.Native.Nat.{◌/◌}
use lib.ListN.{length}
use Rattle.lists.proofs.KeysLaws.{marks_start}
use Rattle.component.specs.Record.{record_at}
use Rattle.component.specs.Drawing.{fails13}
use Rattle.checks.specs.Checks.{is_entry, entry_mark}
use Rattle.checks.proofs.PassesLaws.{none_start, none_next, first_this}
use Rattle.checks.proofs.passes.first13.Goals as goal

pub loop-p-init : goal.loop-p-init
loop-p-init c =
    let at = record_at c.args.file.now in
    (none_start (fails13 at), marks_start 16384 (is_entry at) (entry_mark at (length c.args.file.now / 24)) 0)

pub returns-then-enters_again : goal.returns-then-enters_again
returns-then-enters_again c =
    let l = c.loop-p in
    first_this (fails13 (record_at c.args.file.now)) _ _ l.invariant.0 _ c.enters_again.ensures.value c.if-enters_again.true c.loop-p-test.true

pub loop-p-preserved : goal.loop-p-preserved
loop-p-preserved c =
    let l = c.loop-p in (
      none_next (fails13 (record_at c.args.file.now)) l.p 0 l.invariant.0 _ c.enters_again.ensures.value c.if-enters_again.false,
      c.enters_again.ensures.marked c.if-enters_again.false,
    )
