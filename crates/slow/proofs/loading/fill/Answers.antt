-- `fill`: each pass leaves its table as the definition has it.
-- Assumes nothing.
use Rattle.load.proofs.LoadLaws.{inputs_room, current_room, copy_room}
use Rattle.slow.specs.declared.SlowCounts.{SlowCounts}
use Rattle.slow.specs.Slow.{slow_tables_of}
use Rattle.slow.proofs.PreparingLaws.{slow_full-sound}
use Rattle.slow.proofs.CallsLaws.{load_filled}
use Rattle.slow.proofs.loading.fill.Goals as goal

pub zeros-requires : goal.zeros-requires
zeros-requires c =
    let a = c.args in
    let none : SlowCounts = record { inputs = 0; outputs = 0; current = 0; following = 0; standing = 0 } in
    let sizes = slow_full-sound (slow_tables_of a.inputs.now a.outputs.now a.current.now a.following.now a.standing.now none)
    (c.requires.1 none) in
    inputs_room c.args.file.now c.requires.0 c.args.inputs.now _ c.lay_components-all.ensures.value sizes.inputs

pub lay_outputs-requires : goal.lay_outputs-requires
lay_outputs-requires c =
    let a = c.args in
    let none : SlowCounts = record { inputs = 0; outputs = 0; current = 0; following = 0; standing = 0 } in
    let sizes = slow_full-sound (slow_tables_of a.inputs.now a.outputs.now a.current.now a.following.now a.standing.now none)
    (c.requires.1 none) in
    (c.requires.0, sizes.outputs)

pub count_up-requires : goal.count_up-requires
count_up-requires c =
    let a = c.args in
    let none : SlowCounts = record { inputs = 0; outputs = 0; current = 0; following = 0; standing = 0 } in
    let sizes = slow_full-sound (slow_tables_of a.inputs.now a.outputs.now a.current.now a.following.now a.standing.now none)
    (c.requires.1 none) in
    current_room c.args.file.now c.requires.0 c.args.current.now _ c.lay_components-all.ensures.value sizes.current

pub lay_standing-count-requires : goal.lay_standing-count-requires
lay_standing-count-requires c =
    let a = c.args in
    let none : SlowCounts = record { inputs = 0; outputs = 0; current = 0; following = 0; standing = 0 } in
    let sizes = slow_full-sound (slow_tables_of a.inputs.now a.outputs.now a.current.now a.following.now a.standing.now none)
    (c.requires.1 none) in
    (c.requires.0, sizes.standing)

pub copy-requires : goal.copy-requires
copy-requires c =
    let a = c.args in
    let none : SlowCounts = record { inputs = 0; outputs = 0; current = 0; following = 0; standing = 0 } in
    let sizes = slow_full-sound (slow_tables_of a.inputs.now a.outputs.now a.current.now a.following.now a.standing.now none)
    (c.requires.1 none) in
    let l = c.lay_standing-count in
    copy_room c.args.file.now c.requires.0 c.args.following.now _ _ _ l.ensures.standing_after l.ensures.value sizes.following

pub returns : goal.returns
returns c m =
    let a = c.args in
    let none : SlowCounts = record { inputs = 0; outputs = 0; current = 0; following = 0; standing = 0 } in
    let sizes = slow_full-sound (slow_tables_of a.inputs.now a.outputs.now a.current.now a.following.now a.standing.now none)
    (c.requires.1 none) in
    let l = c.lay_standing-count in
    load_filled c.args.file.now (slow_tables_of c.args.inputs.now c.args.outputs.now c.args.current.now c.args.following.now c.args.standing.now m) c.requires.0 sizes.inputs sizes.current _ c.lay_components-all.ensures.value _ _ _ _ _
    l.result c.zeros.ensures c.lay_outputs.ensures c.count_up.ensures l.ensures.standing_after l.ensures.value
    c.copy.ensures
