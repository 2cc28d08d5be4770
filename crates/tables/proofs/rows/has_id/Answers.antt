-- `has_id`: the word is compared with the id.
-- Assumes nothing.
use Rattle.tables.proofs.rows.has_id.Goals as goal

pub returns : goal.returns
returns c = rw c.id_word.ensures
