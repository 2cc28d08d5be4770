-- `value_shown`: the port shown stands in the tables.
-- Assumes nothing.
use Rattle.look.proofs.ShowLaws.{shown_number, shown_row, shown_port, shown_value}
use Rattle.look.proofs.showing.value_shown.Goals as goal

pub flat_pin-end-requires : goal.flat_pin-end-requires
flat_pin-end-requires c =
    let a = c.args in (
      c.requires.ready.indexes.size,
      shown_number a.file.now a.indexes.now a.components.now a.inputs.now a.outputs.now c.requires.ready.accepted
          c.requires.ready.indexes c.requires.rows_held a.side a.c a.i c.requires.i_bound.1 c.requires.i_bound.0 _ c.port_shown.ensures,
    )

pub value_at-requires : goal.value_at-requires
value_at-requires c =
    let a = c.args in
    let row = shown_row a.file.now a.indexes.now a.components.now a.inputs.now a.outputs.now c.requires.ready.accepted
    c.requires.ready.indexes c.requires.rows_held a.side a.c a.i c.requires.i_bound.1 c.requires.i_bound.0 _ c.port_shown.ensures _ c.flat_pin-end.ensures.0 in
    let port = shown_port a.file.now a.indexes.now a.components.now a.inputs.now a.outputs.now c.requires.ready.accepted
    c.requires.ready.indexes c.requires.rows_held a.side a.c a.i c.requires.i_bound.1 c.requires.i_bound.0 _ c.port_shown.ensures _ c.flat_pin-end.ensures.0 in
    (row, port)

pub returns : goal.returns
returns c =
    let a = c.args in
    shown_value a.file.now a.indexes.now a.components.now a.inputs.now a.outputs.now c.requires.ready.accepted
    c.requires.ready.indexes c.requires.rows_held a.side a.c a.i c.requires.i_bound.1 c.requires.i_bound.0 _ c.port_shown.ensures _ c.flat_pin-end.ensures.0
    _ c.value_at.ensures
