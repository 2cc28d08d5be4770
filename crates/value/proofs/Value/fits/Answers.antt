-- `Value::fits`: the two tests are the definition's, and `lies_below` gives its last part.
-- Assumes nothing.
use Rattle.value.proofs.Value.fits.Goals as goal

pub returns : goal.returns
returns c = rw c.lies_below.ensures
