-- `id_again`: by what stands at p, and whether its mark is set.
-- Assumes nothing.
use mathlib.Core.Path.{sym, ◌∙◌}
use mathlib.Core.Logic.{inl, inr}
use Rattle.checks.proofs.PassesLaws.{id_other, id_found, id_new}
use Rattle.checks.proofs.passes.id_again.Goals as goal
use Rattle.checks.proofs.passes.id_again.Goals.{else-marks-at-ne0, then-marks-at-ne0+else-id_before}

pub returns-in_default : goal.returns-in_default
returns-in_default c =
    let r = id_other c.args.file.now c.args.marks.now c.args.p c.requires.1 _ c.component_at.ensures c.in_default.is in
    record { value = r.0; marked = r.1 }

pub returns-then-id_before : goal.returns-then-id_before
returns-then-id_before c =
    let r = id_found c.args.file.now c.args.marks.now c.args.p c.requires.1 _ c.component_at.ensures _ c.in-Some.is _
    c.args.marks.now c.id_before.ensures c.if-id_before.true in
    record { value = r.0; marked = r.1 }

pub returns : goal.returns
returns c =
    let m = c.mark_of-at.ensures in
    let r = id_new c.args.file.now c.args.marks.now c.args.p c.requires.1 _ c.component_at.ensures _ c.in-Some.is _ m.0 m.1
    (elim c.if-marks-at-ne0.branch [ then-marks-at-ne0+else-id_before w ↦ inr (sym w.if-id_before.false ∙ w.id_before.ensures) | else-marks-at-ne0 w ↦ inl w.if-marks-at-ne0.false ]) in
    record { value = r.0; marked = r.1 }
