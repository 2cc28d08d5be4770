-- `end_at`: the two words are the component and the port.
-- Assumes nothing.
use Rattle.tables.proofs.wires.end_at.Goals as goal

pub returns : goal.returns
returns c = rw (c.word_of-port.ensures, c.word_of.ensures)
