-- `fill`: each pass leaves its table as the definition has it.
-- Assumes nothing.
use Rattle.tables.specs.Tables.{tables_of}
use Rattle.load.proofs.LoadLaws.{inputs_room, current_room, copy_room, filled}
use Rattle.load.proofs.fill.Goals as goal

pub zeros-requires : goal.zeros-requires
zeros-requires c =
    inputs_room c.args.file.now c.requires.file_value.0 c.args.inputs.now _ c.lay_components-all.ensures.value c.requires.file_value.2

pub count_up-requires : goal.count_up-requires
count_up-requires c =
    current_room c.args.file.now c.requires.file_value.0 c.args.current.now _ c.lay_components-all.ensures.value c.requires.file_value.5

pub copy-requires : goal.copy-requires
copy-requires c =
    copy_room c.args.file.now c.requires.file_value.0 c.args.following.now _ _ _ c.lay_standing-standing_count.ensures.standing_after
    c.lay_standing-standing_count.ensures.value c.requires.file_value.6

pub returns : goal.returns
returns c =
    let a = c.args in
    filled a.file.now c.requires.file_value.0
    (tables_of a.components.now a.inputs.now a.outputs.now a.wires.now a.current.now
    a.following.now
    a.standing.now _)
    c.requires.file_value.2 c.requires.file_value.5 c.lay_components-all.result c.lay_components-all.ensures.value _ _ _ _ _ _ _
    c.lay_wires-wire_count.result c.lay_standing-standing_count.result c.lay_components-all.ensures.components_after c.zeros.ensures
    c.lay_outputs.ensures c.lay_wires-wire_count.ensures.wires_after c.lay_wires-wire_count.ensures.value c.count_up.ensures
    c.lay_standing-standing_count.ensures.standing_after c.lay_standing-standing_count.ensures.value c.copy.ensures
