-- `is_kind`: the word is compared with the kind's number.
-- Assumes nothing.
use Rattle.tables.proofs.rows.is_kind.Goals as goal

pub returns : goal.returns
returns c = rw (c.kind_word.ensures, c.from.ensures)
