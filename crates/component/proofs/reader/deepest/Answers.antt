-- `deepest`: the number of the definition.
-- Assumes nothing.
use mathlib.Core.Path.{refl}
use Rattle.component.specs.Drawing.{deepest}
use Rattle.component.proofs.reader.deepest.Goals as goal

pub returns : goal.returns
unfolding deepest
returns c = refl
