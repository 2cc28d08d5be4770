-- `copy_components`: the components' records passed so far are copied.
-- Assumes nothing.
use mathlib.Core.Path.{◌∙◌}
use native.Mathlib.Omega.{arith}
use borrow.Author.Tests.{eq-eqb, ne_eqb}
use Rattle.lists.proofs.LayingLaws.{laid_start, laid_length}
use Rattle.component.specs.Record.{record_count, loose_at}
use Rattle.component.specs.Drawing.{is_component}
use Rattle.mend.proofs.CopyLaws.{plain_length, pick_room, pick_here, pick_not}
use Rattle.mend.proofs.CopiesLaws.{component_byte, component_part, parts_laid}
use Rattle.mend.proofs.copying.copy_components.Goals as goal
use Rattle.mend.proofs.copying.copy_components.Goals.{else-file-p-eq1, then-file-p-eq1}

pub loop-p-init : goal.loop-p-init
loop-p-init c = (omega arith, laid_start _ _)

pub copy_component-requires : goal.copy_component-requires
copy_component-requires c =
    let l = c.loop-p in
    let f = c.args.file.now in (
      omega arith,
      pick_room (is_component (loose_at f)) (component_part f) 24 (record_count f) (plain_length f) c.args.buffer.now l.p l.buffer l.at l.invariant.1
          (omega arith) c.requires.1,
    )

pub loop-p-preserved : goal.loop-p-preserved
loop-p-preserved c =
    let l = c.loop-p in
    let f = c.args.file.now in
    let T = is_component (loose_at f) in
    let byte = component_byte f l.p (omega arith) in
    elim c.if-file-p-eq1.branch [
      | then-file-p-eq1 w ↦ rw (w.buffer-is, w.at-is) (
        omega arith,
        pick_here T (component_part f) 24 (record_count f) (plain_length f) c.args.buffer.now l.p l.buffer l.at l.invariant.1 (omega arith) _
            (byte ∙ eq-eqb _ 1 w.if-file-p-eq1.true) w.copy_component.ensures,
      )
      | else-file-p-eq1 w ↦ rw (w.buffer-is, w.at-is) (
        omega arith,
        pick_not T (component_part f) 24 (record_count f) (plain_length f) c.args.buffer.now l.p l.buffer l.at l.invariant.1 (omega arith)
            (byte ∙ ne_eqb _ 1 w.if-file-p-eq1.false),
      )
    ]

pub shape_of-buffer : goal.shape_of-buffer
shape_of-buffer c = laid_length _ _ _ _ _ c.loop-p.invariant.1

pub returns : goal.returns
returns c =
    let l = c.loop-p in
    parts_laid c.args.file.now c.args.buffer.now l.buffer l.p l.at l.invariant.1 (omega arith) c.requires.1
