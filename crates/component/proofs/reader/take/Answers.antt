-- `take`: what check 3 leaves open is what the record kind says.
-- Assumes nothing.
use Rattle.component.proofs.RecordLaws.{take_component, take_connection, take_input_map, take_output_map}
use Rattle.component.proofs.reader.take.Goals as goal

pub returns-in-1 : goal.returns-in-1
returns-in-1 c = search (take_component)

pub returns-in-2 : goal.returns-in-2
returns-in-2 c = search (take_connection)

pub returns-in-3 : goal.returns-in-3
returns-in-3 c = search (take_input_map)

pub returns-in_default : goal.returns-in_default
returns-in_default c = search (take_output_map)
