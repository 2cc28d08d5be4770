-- `are_full`: the tests are those of the definition.
-- Assumes nothing.
use mathlib.Core.Path.{refl}
use Rattle.slow.specs.Slow.{slow_full}
use Rattle.slow.proofs.preparing.are_full.Goals as goal

pub returns : goal.returns
unfolding slow_full
returns c m = refl
