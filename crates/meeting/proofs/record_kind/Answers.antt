-- `record_kind`: by what the record says.
-- Assumes nothing.
use Rattle.meeting.proofs.MeetingLaws.{kind_refused, kind_component, kind_connection, kind_input_map, kind_output_map}
use Rattle.meeting.proofs.record_kind.Goals as goal

pub returns-in_default : goal.returns-in_default
returns-in_default c = search (kind_refused)

pub returns-in-Component : goal.returns-in-Component
returns-in-Component c = search (kind_component)

pub returns-in-Connection : goal.returns-in-Connection
returns-in-Connection c = search (kind_connection)

pub returns-in-InputMap : goal.returns-in-InputMap
returns-in-InputMap c = search (kind_input_map)

pub returns-in-OutputMap : goal.returns-in-OutputMap
returns-in-OutputMap c = search (kind_output_map)
