use Rattle.kinds.proofs.table.values.Goals as goal

pub returns : goal.returns
returns c = rw c.largest.ensures
