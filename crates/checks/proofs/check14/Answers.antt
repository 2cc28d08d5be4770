-- `check14`: a record is tested only where it is a composite, which the index has a word of.
-- Assumes nothing.
use Rattle.checks.proofs.ChecksLaws.{fails14_other, fails14_primitive, fails14_composite, fails14_counted, component_few}
use Rattle.checks.proofs.check14.Goals as goal

pub returns-in_default : goal.returns-in_default
returns-in_default c = search (fails14_other)

pub returns-then-fields-number_of : goal.returns-then-fields-number_of
returns-then-fields-number_of c = search (fails14_primitive)

pub out_map_count-requires : goal.out_map_count-requires
out_map_count-requires c = (c.requires.0.size, search (component_few))

pub returns : goal.returns
returns c = search (fails14_composite, fails14_counted)
