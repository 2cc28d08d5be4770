-- `flat_pin`: the word of a component is a number of 16 bits.
-- Assumes nothing.
use mathlib.Core.Path.{refl}
use native.Mathlib.Omega.{arith}
use Rattle.laying.proofs.wires.flat_pin.Goals as goal

pub overflow_cast-result : goal.overflow_cast-result
overflow_cast-result c = omega (arith, c.type_inv.indexes c.args.pin.comp)

pub returns : goal.returns
returns c = (refl, omega (arith, c.type_inv.indexes c.args.pin.comp))
