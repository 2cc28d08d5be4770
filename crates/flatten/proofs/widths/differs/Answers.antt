-- `differs`: the width of the component that stands there.
-- Assumes nothing.
use mathlib.Core.Path.{ap, ◌∙◌}
use mathlib.Core.Bool.{not}
use Prim.Native.Nat.{ℕ}
use lib.Dec.{eqb}
use Rattle.kinds.specs.Kinds.{input_width}
use Rattle.flatten.proofs.widths.differs.Goals as goal

pub returns : goal.returns
returns c =
    ap (λ (v : ℕ). not (eqb c.args.width v))
    (c.input_width.ensures ∙ ap input_width c.fields_at.ensures)
