use Rattle.kinds.proofs.table.input_width.Goals as goal

pub returns : goal.returns
returns c = rw c.row_of.ensures
