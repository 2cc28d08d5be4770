-- `component_at`: the record is refused, no component, or one.
-- Assumes nothing.
use Rattle.component.proofs.RecordLaws.{but_component, sees_refused, sees_line, sees_component}
use Rattle.component.proofs.reader.component_at.Goals as goal

pub returns-in_default : goal.returns-in_default
returns-in_default c = search (sees_refused)

pub returns-in_default-says : goal.returns-in_default-says
returns-in_default-says c =
    let k = but_component c.in-Taken.says c.in_default-says.not-Component in
    search (sees_line)

pub returns : goal.returns
returns c = search (sees_component)
