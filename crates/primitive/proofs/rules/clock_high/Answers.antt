use native.Mathlib.Omega.{arith}
use Rattle.primitive.proofs.rules.clock_high.Goals as goal

pub remainder-requires : goal.remainder-requires
remainder-requires c = omega arith

pub returns : goal.returns
returns c = rw c.remainder.ensures
