-- `counts_within`: the tests are those of the definition, in its order.
-- Assumes nothing.
use mathlib.Core.Path.{refl}
use Rattle.net.specs.Net.{counts_within}
use Rattle.net.proofs.limits.counts_within.Goals as goal

pub returns : goal.returns
unfolding counts_within
returns c = refl
