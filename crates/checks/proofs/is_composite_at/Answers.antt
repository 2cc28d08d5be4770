-- `is_composite_at`: the test of the definition, at the fields read.
-- Assumes nothing.
use Rattle.checks.proofs.is_composite_at.Goals as goal

pub returns : goal.returns
returns c = rw (c.fields_at.ensures, c.number_of.ensures)
