-- `copy_kept`: the kept records passed so far are copied.
-- Assumes nothing.
use Prim.Native.Nat.{◌<◌}
use native.Mathlib.Omega.{arith}
use Rattle.lists.proofs.LayingLaws.{laid_start, laid_length}
use Rattle.component.specs.Record.{record_count, part_at}
use Rattle.component.proofs.LooseLaws.{part_length}
use Rattle.mend.proofs.CopyLaws.{pick_room, pick_here, pick_not}
use Rattle.mend.proofs.CopiesLaws.{stays, kept_laid, marked_stays, unmarked_goes}
use Rattle.mend.proofs.copying.copy_kept.Goals as goal
use Rattle.mend.proofs.copying.copy_kept.Goals.{else-kept-p-ne0, then-kept-p-ne0}

pub loop-p-init : goal.loop-p-init
loop-p-init c = (omega arith, laid_start _ _)

pub copy_record-requires : goal.copy_record-requires
copy_record-requires c =
    let l = c.loop-p in
    let f = c.args.file.now in (
      omega arith,
      pick_room (stays f) (part_at f) 24 (record_count f) (part_length f) c.args.buffer.now l.p l.buffer l.at l.invariant.1 (omega arith) c.requires.2,
    )

pub loop-p-preserved : goal.loop-p-preserved
loop-p-preserved c =
    let l = c.loop-p in
    let f = c.args.file.now in
    let below : l.p < record_count f = omega arith in
    elim c.if-kept-p-ne0.branch [
      | then-kept-p-ne0 w ↦ rw (w.buffer-is, w.at-is) (
        omega arith,
        pick_here (stays f) (part_at f) 24 (record_count f) (part_length f) c.args.buffer.now l.p l.buffer l.at l.invariant.1 below _
            (marked_stays f c.args.kept.now l.p c.requires.0 below w.if-kept-p-ne0.true) w.copy_record.ensures,
      )
      | else-kept-p-ne0 w ↦ rw (w.buffer-is, w.at-is) (
        omega arith,
        pick_not (stays f) (part_at f) 24 (record_count f) (part_length f) c.args.buffer.now l.p l.buffer l.at l.invariant.1 below
            (unmarked_goes f c.args.kept.now l.p c.requires.0 below w.if-kept-p-ne0.false),
      )
    ]

pub shape_of-buffer : goal.shape_of-buffer
shape_of-buffer c = laid_length _ _ _ _ _ c.loop-p.invariant.1

pub returns : goal.returns
returns c =
    let l = c.loop-p in
    kept_laid c.args.file.now c.args.buffer.now l.buffer l.p l.at l.invariant.1 (omega arith) c.requires.2
