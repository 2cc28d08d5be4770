-- `has_input`: the test of the definition, at the fields read.
-- Assumes nothing.
use Rattle.checks.proofs.ChecksLaws.{inputs_other, inputs_component}
use Rattle.checks.proofs.has_input.Goals as goal

pub returns-in_default : goal.returns-in_default
returns-in_default c = search (inputs_other)

pub returns : goal.returns
returns c = search (inputs_component)
