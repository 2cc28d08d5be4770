-- `entry_of`: by what the record says.
-- Assumes nothing.
use Rattle.checks.proofs.ChecksLaws.{entry_refused, entry_component, entry_connection, entry_input_map, entry_output_map}
use Rattle.checks.proofs.entry_of.Goals as goal

pub returns-in_default : goal.returns-in_default
returns-in_default c = search (entry_refused)

pub returns-in-Component : goal.returns-in-Component
returns-in-Component c = search (entry_component)

pub returns-in-Connection : goal.returns-in-Connection
returns-in-Connection c = search (entry_connection)

pub returns-in-InputMap : goal.returns-in-InputMap
returns-in-InputMap c = search (entry_input_map)

pub returns-in-OutputMap : goal.returns-in-OutputMap
returns-in-OutputMap c = search (entry_output_map)
