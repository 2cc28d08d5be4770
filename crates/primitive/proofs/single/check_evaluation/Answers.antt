-- `check_evaluation`: the tests stand in the order of the definition's checks, so at each return those before did not hold.
-- Assumes nothing.
use mathlib.Core.Path.{sym, ap}
use Rattle.kinds.specs.Given.{refusing}
use Rattle.primitive.proofs.EvaluateLaws.{number_7, number_8, number_9, number_2, number_19, number_0, there_inputs, there_entering, there_outputs, there_leaving}
use Rattle.primitive.proofs.single.check_evaluation.Goals as goal

-- 7
pub returns-then-is_kept : goal.returns-then-is_kept
returns-then-is_kept c =
    let a = c.args in
    rw c.refused_by.ensures (ap refusing (number_7 a.f a.inputs.now a.entering.now a.outputs.now a.leaving.now (sym c.if-is_kept.ensures)))

-- 8
pub returns-then-is_unknown : goal.returns-then-is_unknown
returns-then-is_unknown c =
    let a = c.args in
    rw c.refused_by-then-is_unknown.ensures
    (ap refusing (number_8 a.f a.inputs.now a.entering.now a.outputs.now a.leaving.now (sym c.if-is_kept.ensures) (sym c.if-is_unknown.ensures)))

-- 9
pub returns-then-not-is_primitive-obeys : goal.returns-then-not-is_primitive-obeys
returns-then-not-is_primitive-obeys c =
    let a = c.args in
    rw c.refused_by-then-not-is_primitive-obeys.ensures
    (ap refusing (number_9 a.f a.inputs.now a.entering.now a.outputs.now a.leaving.now (sym c.if-is_kept.ensures) (sym c.if-is_unknown.ensures)
    (rw (c.is_primitive.ensures, c.obeys.ensures) at c.if-not-is_primitive-obeys.true)))

-- 2
pub returns-then-inputs-n : goal.returns-then-inputs-n
returns-then-inputs-n c =
    let a = c.args in
    rw c.refused_by-then-inputs-n.ensures
    (ap refusing (number_2 a.f a.inputs.now a.entering.now a.outputs.now a.leaving.now (sym c.if-is_kept.ensures) (sym c.if-is_unknown.ensures)
    (rw (c.is_primitive.ensures, c.obeys.ensures) at c.if-not-is_primitive-obeys.false) c.if-inputs-n.true))

pub all_fit-requires : goal.all_fit-requires
all_fit-requires c =
    let a = c.args in
    (there_inputs a.f a.inputs.now a.entering.now a.outputs.now a.leaving.now c.if-inputs-n.false, there_entering a.f a.inputs.now a.entering.now a.outputs.now a.leaving.now c.if-inputs-n.false)

pub all_fit-requires-2 : goal.all_fit-requires-2
all_fit-requires-2 c =
    let a = c.args in
    (there_outputs a.f a.inputs.now a.entering.now a.outputs.now a.leaving.now c.if-inputs-n.false, there_leaving a.f a.inputs.now a.entering.now a.outputs.now a.leaving.now c.if-inputs-n.false)

-- 19
pub returns-then-not-all_fit : goal.returns-then-not-all_fit
returns-then-not-all_fit c =
    let a = c.args in
    rw c.refused_by-then-not-all_fit.ensures
    (ap refusing (number_19 a.f a.inputs.now a.entering.now a.outputs.now a.leaving.now (sym c.if-is_kept.ensures) (sym c.if-is_unknown.ensures)
    (rw (c.is_primitive.ensures, c.obeys.ensures) at c.if-not-is_primitive-obeys.false) c.if-inputs-n.false
    (rw (c.all_fit.ensures, c.input_width.ensures, c.all_fit-2.ensures, c.output_width.ensures) at c.if-not-all_fit.true)))

-- accepted
pub returns : goal.returns
returns c =
    let a = c.args in
    ap refusing (number_0 a.f a.inputs.now a.entering.now a.outputs.now a.leaving.now (sym c.if-is_kept.ensures) (sym c.if-is_unknown.ensures)
    (rw (c.is_primitive.ensures, c.obeys.ensures) at c.if-not-is_primitive-obeys.false) c.if-inputs-n.false
    (rw (c.all_fit.ensures, c.input_width.ensures, c.all_fit-2.ensures, c.output_width.ensures) at c.if-not-all_fit.false))
