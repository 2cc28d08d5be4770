use mathlib.Core.Path.{ap, ◌∙◌}
use mathlib.Core.List.{[], ◌∷◌}
use Prim.Native.Nat.{ℕ}
use Rattle.primitive.proofs.rules.put_level.Goals as goal

pub returns : goal.returns
returns c = (c.put.ensures.0, c.put.ensures.1 ∙ ap (λ (x : ℕ). x ∷ []) c.level_of.ensures)
