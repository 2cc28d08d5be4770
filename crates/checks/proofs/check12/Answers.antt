-- `check12`: what the record says names the ports that must exist.
-- Assumes nothing.
use Rattle.checks.proofs.ChecksLaws.{fails12_refused, fails12_component, fails12_connection, fails12_input_map, fails12_output_map}
use Rattle.checks.proofs.check12.Goals as goal

pub returns-in_default : goal.returns-in_default
returns-in_default c = search (fails12_refused)

pub returns-in-Component : goal.returns-in-Component
returns-in-Component c = search (fails12_component)

pub returns-in-Connection : goal.returns-in-Connection
returns-in-Connection c = search (fails12_connection)

pub returns-in-InputMap : goal.returns-in-InputMap
returns-in-InputMap c = search (fails12_input_map)

pub returns-in-OutputMap : goal.returns-in-OutputMap
returns-in-OutputMap c = search (fails12_output_map)
