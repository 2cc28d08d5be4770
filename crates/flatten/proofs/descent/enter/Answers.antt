-- `enter`: the tests made so far say where the record leads.
-- Assumes nothing.
use Rattle.component.proofs.RecordLaws.{but_input_map}
use Rattle.flatten.proofs.DescentLaws.{entered_refused, entered_other, entered_owner, entered_port, entered_to}
use Rattle.flatten.proofs.descent.enter.Goals as goal

-- refused
pub returns-in_default : goal.returns-in_default
returns-in_default c = search (entered_refused)

-- no input map
pub returns-in_default-says : goal.returns-in_default-says
returns-in_default-says c = let o = but_input_map c.in-Taken.says c.in_default-says.not-InputMap in search (entered_other)

-- of another owner
pub returns-then-owner-c : goal.returns-then-owner-c
returns-then-owner-c c = search (entered_owner)

-- of another input
pub returns-then-port-i : goal.returns-then-port-i
returns-then-port-i c = search (entered_port)

-- of this one
pub returns : goal.returns
returns c = search (entered_to)
