-- `falls`: by the variants of both.
-- Assumes nothing.
use Rattle.checks.proofs.ChecksLaws.{falls_components, falls_component, falls_connection_first, falls_connections, falls_connection}
use Rattle.checks.proofs.ChecksLaws.{falls_input_maps, falls_input_map, falls_input_map_later, falls_output_maps, falls_output_map}
use Rattle.component.proofs.RecordLaws.{but_component, but_output_map}
use Rattle.checks.proofs.falls.Goals as goal

pub returns-in-Component-before : goal.returns-in-Component-before
returns-in-Component-before c = search (falls_components)

pub returns-in_default : goal.returns-in_default
returns-in_default c =
    let k = but_component c.args.before c.in_default.not-Component in
    search (falls_component)

pub returns-in-Component-before-2 : goal.returns-in-Component-before-2
returns-in-Component-before-2 c = search (falls_connection_first)

pub returns-in-Connection-before : goal.returns-in-Connection-before
returns-in-Connection-before c = search (falls_connections)

pub returns-in_default-before : goal.returns-in_default-before
returns-in_default-before c = search (falls_connection)

pub returns-in-InputMap-before : goal.returns-in-InputMap-before
returns-in-InputMap-before c = search (falls_input_maps)

pub returns-in-OutputMap-before : goal.returns-in-OutputMap-before
returns-in-OutputMap-before c = search (falls_input_map)

pub returns-in_default-before-2 : goal.returns-in_default-before-2
returns-in_default-before-2 c = search (falls_input_map_later)

pub returns-in-OutputMap-before-2 : goal.returns-in-OutputMap-before-2
returns-in-OutputMap-before-2 c = search (falls_output_maps)

pub returns-in_default-before-3 : goal.returns-in_default-before-3
returns-in_default-before-3 c =
    let k = but_output_map c.args.before c.in_default-before-3.not-OutputMap in
    search (falls_output_map)
