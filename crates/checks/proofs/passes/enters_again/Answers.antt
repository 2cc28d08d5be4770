-- `enters_again`: by what the record at p enters, and whether its mark is set.
-- Assumes nothing.
use mathlib.Core.Path.{sym, subst, ◌∙◌}
use mathlib.Core.Logic.{inl, inr}
use Rattle.checks.specs.Checks.{EntryAs}
use Rattle.checks.proofs.PassesLaws.{entry_other, entry_found, entry_new}
use Rattle.checks.proofs.passes.enters_again.Goals as goal
use Rattle.checks.proofs.passes.enters_again.Goals.{else-marks-place-ne0, then-marks-place-ne0+else-earlier_of-p}

pub returns-in_default : goal.returns-in_default
returns-in_default c =
    let r = entry_other c.args.file.now c.args.marks.now c.args.p c.requires.1 c.entry_of.result
    (subst (EntryAs c.entry_of.result) c.known_at.ensures c.entry_of.ensures) c.in_default.is in
    record { value = r.0; marked = r.1 }

pub returns-then-earlier_of-p : goal.returns-then-earlier_of-p
returns-then-earlier_of-p c =
    let r = entry_found c.args.file.now c.args.marks.now c.args.p c.requires.1 c.entry_of.result
    (subst (EntryAs c.entry_of.result) c.known_at.ensures c.entry_of.ensures) _ c.args.marks.now
    c.earlier_of.ensures c.if-earlier_of-p.true in
    record { value = r.0; marked = r.1 }

pub returns : goal.returns
returns c =
    let m = c.place_mark-place.ensures in
    let r = entry_new c.args.file.now c.args.marks.now c.args.p c.requires.1 c.entry_of.result
    (subst (EntryAs c.entry_of.result) c.known_at.ensures c.entry_of.ensures) _ c.in-Some.is _ m.0 m.1
    (elim c.if-marks-place-ne0.branch [ then-marks-place-ne0+else-earlier_of-p w ↦ inr (sym w.if-earlier_of-p.false ∙ w.earlier_of.ensures) | else-marks-place-ne0 w ↦ inl w.if-marks-place-ne0.false ]) in
    record { value = r.0; marked = r.1 }
