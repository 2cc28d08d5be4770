-- `has_output`: the test of the definition, at the fields read.
-- Assumes nothing.
use Rattle.checks.proofs.ChecksLaws.{outputs_other, outputs_component}
use Rattle.checks.proofs.has_output.Goals as goal

pub returns-in_default : goal.returns-in_default
returns-in_default c = search (outputs_other)

pub returns : goal.returns
returns c = search (outputs_component)
