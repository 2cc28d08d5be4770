-- `list_dropped`: the dropped positions passed so far are listed; a part record's is behind them.
-- Assumes nothing.
use Prim.Native.Nat.{◌<◌}
use mathlib.Core.Path.{refl, ◌∙◌}
use native.Mathlib.Omega.{arith}
use lib.ListN.{length-set}
use Rattle.lists.proofs.LayingLaws.{laid_start}
use Rattle.component.specs.Record.{record_count}
use Rattle.mend.proofs.CopyLaws.{pick_here, pick_not}
use Rattle.mend.proofs.CopiesLaws.{goes, alone, dropped_laid, dropped_part, marked_not, unmarked_so}
use Rattle.mend.proofs.copying.list_dropped.Goals as goal
use Rattle.mend.proofs.copying.list_dropped.Goals.{else-kept-p-eq0, then-kept-p-eq0}

pub loop-p-init : goal.loop-p-init
loop-p-init c = (omega arith, laid_start _ _, refl)

pub loop-p-preserved : goal.loop-p-preserved
loop-p-preserved c =
    let l = c.loop-p in
    let f = c.args.file.now in
    let below : l.p < record_count f = omega arith in
    elim c.if-kept-p-eq0.branch [
      | then-kept-p-eq0 w ↦ rw (w.list-is, w.count-is) (
        omega arith,
        pick_here (goes f) (alone f) 1 (record_count f) (λ p h. refl) c.args.list.now l.p l.list l.count l.invariant.1 below _
            (unmarked_so f c.args.kept.now l.p c.requires.0 below w.if-kept-p-eq0.true) refl,
        length-set l.list l.count _ ∙ l.invariant.2,
      )
      | else-kept-p-eq0 w ↦ rw (w.list-is, w.count-is) (
        omega arith,
        pick_not (goes f) (alone f) 1 (record_count f) (λ p h. refl) c.args.list.now l.p l.list l.count l.invariant.1 below
            (marked_not f c.args.kept.now l.p c.requires.0 below w.if-kept-p-eq0.false),
        l.invariant.2,
      )
    ]

pub shape_of-list-then-file-ne0 : goal.shape_of-list-then-file-ne0
shape_of-list-then-file-ne0 c =
    let l = c.loop-p in
    length-set l.list l.count _ ∙ l.invariant.2

pub returns-then-file-ne0 : goal.returns-then-file-ne0
returns-then-file-ne0 c =
    let l = c.loop-p in
    dropped_part c.args.file.now c.args.list.now l.list l.p l.count l.invariant.1 (omega arith) (omega arith) c.if-file-ne0.true

pub shape_of-list-else-file-ne0 : goal.shape_of-list-else-file-ne0
shape_of-list-else-file-ne0 c = c.loop-p.invariant.2

pub returns-else-file-ne0 : goal.returns-else-file-ne0
returns-else-file-ne0 c =
    let l = c.loop-p in
    dropped_laid c.args.file.now c.args.list.now l.list l.p l.count l.invariant.1 (omega arith) (omega arith) c.if-file-ne0.false
