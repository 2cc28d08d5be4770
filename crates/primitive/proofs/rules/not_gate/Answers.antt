use mathlib.Core.Path.{ap}
use Rattle.value.specs.declared.Value.{Value}
use Rattle.primitive.proofs.rules.not_gate.Goals as goal

pub returns : goal.returns
returns c = ap (λ (v : Value). v.number) c.complement.ensures
