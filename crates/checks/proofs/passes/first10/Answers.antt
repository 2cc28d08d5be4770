-- `first10`: the invariant: no record before p fails, and the ids before p are marked.
-- Assumes nothing.
use Rattle.lists.proofs.KeysLaws.{marks_start}
use Rattle.component.specs.Record.{record_at}
use Rattle.component.specs.Drawing.{is_component, fails10}
use Rattle.checks.specs.Checks.{id_mark}
use Rattle.checks.proofs.PassesLaws.{none_start, none_next, first_this}
use Rattle.checks.proofs.passes.first10.Goals as goal

pub loop-p-init : goal.loop-p-init
loop-p-init c =
    let at = record_at c.args.file.now in
    (none_start (fails10 at), marks_start 4096 (is_component at) (id_mark at) 0)

pub returns-then-id_again : goal.returns-then-id_again
returns-then-id_again c =
    first_this (fails10 (record_at c.args.file.now)) _ _ c.loop-p.invariant.0 _ c.id_again.ensures.value c.if-id_again.true c.loop-p-test.true

pub loop-p-preserved : goal.loop-p-preserved
loop-p-preserved c =
    let l = c.loop-p in (
      none_next (fails10 (record_at c.args.file.now)) l.p 0 l.invariant.0 _ c.id_again.ensures.value c.if-id_again.false,
      c.id_again.ensures.marked c.if-id_again.false,
    )
