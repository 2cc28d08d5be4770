-- `is_primitive`: the tests are those of the definition.
-- Assumes nothing.
use Rattle.kinds.proofs.table.is_primitive.Goals as goal

pub returns : goal.returns
returns c = rw (c.is_kept.ensures, c.is_unknown.ensures)
