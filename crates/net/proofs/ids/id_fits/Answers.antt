-- `id_fits`: the word is read and compared.
-- Assumes nothing.
use Rattle.net.proofs.ids.id_fits.Goals as goal

pub returns : goal.returns
returns c = rw (c.lies_below.ensures, c.id_word.ensures)
