-- `Value::fits_in`: the width is compared, and `fits` gives the rest.
-- Assumes nothing.
use Rattle.value.proofs.Value.fits_in.Goals as goal

pub returns : goal.returns
returns c = rw c.fits.ensures
