-- `check_port`: the numbers in their order.
-- Assumes nothing.
use mathlib.Core.Path.{◌≡◌, ap, ◌∙◌}
use mathlib.Core.Bool.{cond, not}
use Rattle.value.specs.declared.Fit.{Fit}
use Rattle.kinds.specs.Kinds.{input_width, output_width}
use Rattle.kinds.specs.Given.{refusing}
use Rattle.simulator.proofs.EditsLaws.{edit_17, edit_18, edit_19, edit_0}
use Rattle.simulator.proofs.edits.check_port.Goals as goal
use Rattle.simulator.proofs.edits.check_port.Goals.{else-switch, then-switch}
use Rattle.simulator.proofs.edits.check_port.Lts as lts
use Rattle.simulator.proofs.edits.check_port.Tie as tie
use Rattle.simulator.proofs.edits.check_port.Reads as reads

abbrev JoinedSwitch : Type 0
JoinedSwitch = lts.Joined3 tie.the-claims reads.Pre reads.Post

-- The width of the port that is set.
wide : (c : JoinedSwitch)
    → c.if-switch.width ≡ cond c.is_kind-switch.result (output_width c.fields_at-f.result) (input_width c.fields_at-f.result)
wide c =
    elim c.if-switch.branch [ then-switch w ↦ rw w.if-switch.true (w.width-is ∙ w.output_width-width.ensures) | else-switch w ↦ rw w.if-switch.false (w.width-is ∙ w.input_width-width.ensures) ]

pub returns-then-count-i : goal.returns-then-count-i
returns-then-count-i c =
    let a = c.args in
    rw c.refused_by.ensures (ap refusing (edit_17 a.components.now a.count a.entered a.i a.number c.if-count-i.true))

pub is_kind-switch-requires : goal.is_kind-switch-requires
is_kind-switch-requires c = (c.requires c.if-count-i.false).0

pub is_kind-input-requires : goal.is_kind-input-requires
is_kind-input-requires c = (c.requires c.if-count-i.false).0

pub returns-then-not-switch-input : goal.returns-then-not-switch-input
returns-then-not-switch-input c =
    let a = c.args in
    rw c.refused_by-then-not-switch-input.ensures
    (ap refusing (edit_18 a.components.now a.count a.entered a.i a.number c.if-count-i.false _ _
    c.is_kind-switch.ensures c.is_kind-input.ensures (ap not c.if-not-switch-input.true)))

pub fields_at-f-requires : goal.fields_at-f-requires
fields_at-f-requires c = c.requires c.if-count-i.false

pub returns-then-not-fits : goal.returns-then-not-fits
returns-then-not-fits c =
    let a = c.args in
    rw c.refused_by-then-not-fits.ensures
    (ap refusing (edit_19 a.components.now a.count a.entered a.i a.number c.if-count-i.false _ _
    c.is_kind-switch.ensures c.is_kind-input.ensures (ap not c.if-not-switch-input.false) _ _ _
    c.fields_at-f.ensures (wide c.before.before.before.before.before) (ap (λ (f : Fit). f.fits) c.fits.ensures) c.if-not-fits.true))

pub returns : goal.returns
returns c =
    let a = c.args in
    ap refusing (edit_0 a.components.now a.count a.entered a.i a.number c.if-count-i.false _ _
    c.is_kind-switch.ensures c.is_kind-input.ensures (ap not c.if-not-switch-input.false) _ _ _
    c.fields_at-f.ensures (wide c.before.before.before.before) (ap (λ (f : Fit). f.fits) c.fits.ensures) c.if-not-fits.false)
