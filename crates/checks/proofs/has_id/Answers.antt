-- `has_id`: a record is tested only where it is a component.
-- Assumes nothing.
use Rattle.checks.proofs.ChecksLaws.{has_id-other, has_id-component}
use Rattle.checks.proofs.has_id.Goals as goal

pub returns-in_default : goal.returns-in_default
returns-in_default c = search (has_id-other)

pub returns : goal.returns
returns c = search (has_id-component)
