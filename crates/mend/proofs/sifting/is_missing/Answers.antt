-- `is_missing`: what the record says names the ports that must exist.
-- Assumes nothing.
use Rattle.checks.proofs.ChecksLaws.{missing_component, missing_connection, missing_input_map, missing_output_map}
use Rattle.mend.proofs.sifting.is_missing.Goals as goal

pub returns-in-Component : goal.returns-in-Component
returns-in-Component c = search (missing_component)

pub returns-in-Connection : goal.returns-in-Connection
returns-in-Connection c = search (missing_connection)

pub returns-in-InputMap : goal.returns-in-InputMap
returns-in-InputMap c = search (missing_input_map)

pub returns-in-OutputMap : goal.returns-in-OutputMap
returns-in-OutputMap c = search (missing_output_map)
