-- `child_named`: the first child of the id among the records to come is the answer.
-- Assumes nothing.
use mathlib.Core.Path.{refl, sym, ◌∙◌}
use Rattle.lists.proofs.ListsLaws.{kth_here, kth_next, kth_none}
use Rattle.component.specs.Record.{record_at, record_count}
use Rattle.boxes.specs.Naming.{named}
use Rattle.boxes.proofs.path.child_named.Goals as goal

pub loop-q-init : goal.loop-q-init
loop-q-init c = refl

pub returns-then-is_named : goal.returns-then-is_named
returns-then-is_named c =
    let a = c.args in
    kth_here (named (record_at a.file.now) a.c a.id.0) c.loop-q.q (record_count a.file.now) 0 (record_count a.file.now) _
    c.loop-q.invariant c.loop-q-test.true (sym c.is_named.ensures ∙ c.if-is_named.true) refl

pub loop-q-preserved : goal.loop-q-preserved
loop-q-preserved c =
    let a = c.args in
    kth_next (named (record_at a.file.now) a.c a.id.0) c.loop-q.q (record_count a.file.now) 0 (record_count a.file.now) _
    c.loop-q.invariant c.loop-q-test.true (sym c.is_named.ensures ∙ c.if-is_named.false)

pub returns : goal.returns
returns c =
    let a = c.args in
    kth_none (named (record_at a.file.now) a.c a.id.0) c.loop-q.q (record_count a.file.now) 0 (record_count a.file.now) _
    c.loop-q.invariant c.loop-q-test.false
