-- `check7`: a record is tested only where it is a component.
-- Assumes nothing.
use Rattle.checks.proofs.ChecksLaws.{fails_other, fails7_component}
use Rattle.checks.proofs.check7.Goals as goal

pub returns-in_default : goal.returns-in_default
returns-in_default c = search (fails_other)

pub returns : goal.returns
returns c = search (fails7_component)
