-- `full_size`: the tests are those of the definition, in its order.
-- Assumes nothing.
use mathlib.Core.Path.{ap}
use Rattle.tables.specs.Tables.{full_size}
use Rattle.tables.proofs.lent.Lent.full_size.Goals as goal

pub returns : goal.returns
unfolding full_size
returns c = ap full_size c.self.view_is
