-- `wire_agrees`: both ends stand in the tables, and their numbers are compared.
-- Assumes nothing.
use Rattle.judging.proofs.wires.wire_agrees.Goals as goal

pub returns : goal.returns
returns c = rw (c.first_output.ensures, c.first_input.ensures)
