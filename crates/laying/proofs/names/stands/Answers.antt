-- `stands`: the numbers of the two kinds are those of the definition.
-- Assumes nothing.
use Rattle.laying.proofs.names.stands.Goals as goal

pub returns : goal.returns
returns c = rw (c.from-2.ensures, c.from.ensures)
