-- `most_high`: no more ports are high than there are, so that twice their number fits.
-- Assumes nothing.
use native.Mathlib.Omega.{arith}
use Rattle.primitive.proofs.FoldLaws.{highs_le}
use Rattle.primitive.proofs.rules.most_high.Goals as goal

pub overflow_mul-result : goal.overflow_mul-result
overflow_mul-result c = omega (arith, c.count_high.ensures, highs_le c.args.ports.now, c.requires)

pub returns : goal.returns
returns c = rw c.count_high.ensures
