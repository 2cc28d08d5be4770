-- `is_kept`: by what the record enters, whether check 12 refuses it, and whether its mark is set.
-- Assumes nothing.
use mathlib.Core.Path.{sym, subst, ◌∙◌}
use mathlib.Core.Logic.{inl, inr}
use native.Mathlib.Omega.{arith}
use Rattle.checks.specs.Checks.{EntryAs}
use Rattle.mend.proofs.SiftLaws.{refused_is, enters_here, is_other, is_refused, is_entered, is_new}
use Rattle.mend.proofs.sifting.is_kept.Goals as goal
use Rattle.mend.proofs.sifting.is_kept.Goals.{else-mark-ne0, then-mark-ne0+else-entered_before}

pub returns-in_default : goal.returns-in_default
returns-in_default c =
    let t = subst (EntryAs c.entry_of.result) c.loose_at-reading.ensures c.entry_of.ensures in
    let r = is_other c.args.file.now c.args.kept.now c.args.marks.now c.args.p c.requires.2 c.requires.4 c.entry_of.result t
    c.in_default.is in
    record { value = r.0; marked = r.1 }

pub returns-then-refused : goal.returns-then-refused
returns-then-refused c =
    let t = subst (EntryAs c.entry_of.result) c.loose_at-reading.ensures c.entry_of.ensures in
    let h = c.in-Some.is in
    let a = c.args in
    let k =
    refused_is a.file.now a.parts.now a.p c.loose_at-reading.result c.refuses12-refused.result c.requires.0
    c.loose_at-reading.ensures c.refuses12-refused.ensures
    (enters_here a.file.now a.kept.now a.marks.now a.p c.requires.2 c.requires.4 c.entry_of.result t _ h) in
    let r = is_refused a.file.now a.kept.now a.marks.now a.p c.requires.2 c.requires.4 c.entry_of.result t _ h
    c.refuses12-refused.result k c.if-refused.true in
    record { value = r.0; marked = r.1 }

pub entered_before-requires : goal.entered_before-requires
entered_before-requires c = omega (arith, c.requires.2.size, c.requires.3)

pub returns-then-entered_before : goal.returns-then-entered_before
returns-then-entered_before c =
    let t = subst (EntryAs c.entry_of.result) c.loose_at-reading.ensures c.entry_of.ensures in
    let h = c.in-Some.is in
    let a = c.args in
    let k =
    refused_is a.file.now a.parts.now a.p c.loose_at-reading.result c.refuses12-refused.result c.requires.0
    c.loose_at-reading.ensures c.refuses12-refused.ensures
    (enters_here a.file.now a.kept.now a.marks.now a.p c.requires.2 c.requires.4 c.entry_of.result t _ h) in
    let r = is_entered a.file.now a.kept.now a.marks.now a.p c.requires.2 c.requires.4 c.entry_of.result t _ h
    c.refuses12-refused.result k c.if-refused.false _ c.entered_before.ensures c.if-entered_before.true in
    record { value = r.0; marked = r.1 }

pub returns : goal.returns
returns c =
    let t = subst (EntryAs c.entry_of.result) c.loose_at-reading.ensures c.entry_of.ensures in
    let h = c.in-Some.is in
    let a = c.args in
    let k =
    refused_is a.file.now a.parts.now a.p c.loose_at-reading.result c.refuses12-refused.result c.requires.0
    c.loose_at-reading.ensures c.refuses12-refused.ensures
    (enters_here a.file.now a.kept.now a.marks.now a.p c.requires.2 c.requires.4 c.entry_of.result t _ h) in
    let r = is_new a.file.now a.kept.now a.marks.now a.p c.requires.2 c.requires.4 c.entry_of.result t _ h
    c.refuses12-refused.result k c.if-refused.false a.parts.now c.requires.0 _ c.place_mark-place.ensures.0 c.place_mark-place.ensures.1
    (elim c.if-mark-ne0.branch [ then-mark-ne0+else-entered_before w ↦ inr (sym w.if-entered_before.false ∙ w.entered_before.ensures) | else-mark-ne0 w ↦ inl (sym c.mark_at-mark.ensures ∙ w.if-mark-ne0.false) ]) in
    record { value = r.0; marked = r.1 }
