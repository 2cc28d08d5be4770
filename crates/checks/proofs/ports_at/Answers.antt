-- `ports_at`: no component and no primitive has ports to count.
-- Assumes nothing.
use Rattle.checks.proofs.ChecksLaws.{inputs_none, outputs_none, inputs_composite, outputs_composite, inputs_primitive, outputs_primitive}
use borrow.Author.Rules.{rules}
use Rattle.checks.proofs.ports_at.Goals as goal

pub returns-in_default : goal.returns-in_default
returns-in_default c = (search (inputs_none), search rules, search (outputs_none), search rules)

pub returns-then-not-is_primitive : goal.returns-then-not-is_primitive
returns-then-not-is_primitive c = (search (inputs_composite), search rules, search (outputs_composite), search rules)

pub returns : goal.returns
returns c = (search (inputs_primitive), search rules, search (outputs_primitive), search rules)
