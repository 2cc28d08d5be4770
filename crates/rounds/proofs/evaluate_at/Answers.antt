-- `evaluate_at`: the component's own ports are lent to `update` and put back; one that is not marked is not in the standing list, a Clock
-- stays in it, and any other is struck.
-- Assumes nothing.
use mathlib.Core.Path.{sym, ◌∙◌}
use mathlib.Core.List.{[]}
use Rattle.tables.specs.Words.{uncounted}
use Rattle.tables.proofs.RowsLaws.{obeyed_fit}
use Rattle.rounds.proofs.StepsLaws.{lent_inputs, lent_outputs, lent_own, evaluated_moved, evaluated_unstood, evaluated_clock, evaluated_struck}
use Rattle.rounds.proofs.ListedLaws.{covered_struck}
use Rattle.rounds.proofs.evaluate_at.Goals as goal

pub fields_at-f-requires : goal.fields_at-f-requires
fields_at-f-requires c = let p = c.requires.1 in (p.row, obeyed_fit _ p.obeyed)

pub first_input-input-requires : goal.first_input-input-requires
first_input-input-requires c = c.requires.1.row

pub first_output-output-requires : goal.first_output-output-requires
first_output-output-requires c = c.requires.1.row

pub slice_bounds-update-end : goal.slice_bounds-update-end
slice_bounds-update-end c =
    let a = c.args in
    lent_inputs (uncounted a.components.now []) a.inputs.now a.outputs.now a.i c.requires.1 _ _ _
    c.fields_at-f.ensures c.first_input-input.ensures c.first_output-output.ensures

pub slice_bounds-update-end-2 : goal.slice_bounds-update-end-2
slice_bounds-update-end-2 c =
    let a = c.args in
    lent_outputs (uncounted a.components.now []) a.inputs.now a.outputs.now a.i c.requires.1 _ _ _
    c.fields_at-f.ensures c.first_input-input.ensures c.first_output-output.ensures

pub update-moved-requires : goal.update-moved-requires
update-moved-requires c =
    let a = c.args in
    lent_own (uncounted a.components.now []) a.inputs.now a.outputs.now a.i c.requires.1 _ _ _
    c.fields_at-f.ensures c.first_input-input.ensures c.first_output-output.ensures

pub returns-then-stood-i-eq0 : goal.returns-then-stood-i-eq0
returns-then-stood-i-eq0 c =
    let a = c.args in (
      evaluated_unstood (uncounted a.components.now []) a.inputs.now a.outputs.now a.i c.requires.1 _ _ _
          c.fields_at-f.ensures c.first_input-input.ensures c.first_output-output.ensures
          a.time a.count _ a.standing.now c.update-moved.ensures.1
          (c.requires.0.covered a.i c.requires.1.few c.if-stood-i-eq0.true) c.requires.0.count,
      c.requires.0,
      evaluated_moved (uncounted a.components.now []) a.inputs.now a.outputs.now a.i c.requires.1 _ _ _
          c.fields_at-f.ensures c.first_input-input.ensures c.first_output-output.ensures
          a.time _ [] c.update-moved.ensures.0,
    )

pub is_kind-requires : goal.is_kind-requires
is_kind-requires c = c.requires.1.row

pub returns-then-is_kind : goal.returns-then-is_kind
returns-then-is_kind c =
    let a = c.args in (
      evaluated_clock (uncounted a.components.now []) a.inputs.now a.outputs.now a.i c.requires.1 _ _ _
          c.fields_at-f.ensures c.first_input-input.ensures c.first_output-output.ensures
          a.time a.count _ a.standing.now c.update-moved.ensures.1 (sym c.is_kind.ensures ∙ c.if-is_kind.true) c.requires.0.count,
      c.requires.0,
      evaluated_moved (uncounted a.components.now []) a.inputs.now a.outputs.now a.i c.requires.1 _ _ _
          c.fields_at-f.ensures c.first_input-input.ensures c.first_output-output.ensures
          a.time _ [] c.update-moved.ensures.0,
    )

pub returns : goal.returns
returns c =
    let a = c.args in
    let r = c.strike.ensures in
    let e =
    evaluated_struck (uncounted a.components.now []) a.inputs.now a.outputs.now a.i c.requires.1 _ _ _
    c.fields_at-f.ensures c.first_input-input.ensures c.first_output-output.ensures a.time
    a.count _ _ a.standing.now _ c.update-moved.ensures.1 (sym c.is_kind.ensures ∙ c.if-is_kind.false)
    r.0 r.1 in (
      e,
      covered_struck a.stood.now a.standing.now _ a.count _ a.i e.count r.1 c.requires.0,
      evaluated_moved (uncounted a.components.now []) a.inputs.now a.outputs.now a.i c.requires.1 _ _ _
          c.fields_at-f.ensures c.first_input-input.ensures c.first_output-output.ensures
          a.time _ [] c.update-moved.ensures.0,
    )
