-- `row_of`: the row of the kind that is read, or of Composite where none is.
-- Assumes nothing.
use Rattle.kinds.proofs.KindsLaws.{kind_in-unwrap}
use Rattle.kinds.proofs.table.row_of.Goals as goal

pub returns : goal.returns
returns c = rw (c.table_row.ensures, c.unwrap_or-kind.ensures, c.try_from.ensures, kind_in-unwrap)
