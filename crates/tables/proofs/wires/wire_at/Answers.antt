-- `wire_at`: the four words are its two ends.
-- Assumes nothing.
use Rattle.tables.proofs.wires.wire_at.Goals as goal

pub returns : goal.returns
returns c = rw (c.end_at-dst.ensures, c.end_at-src.ensures)
