-- `is_primitive_at`: the test of the definition, at the fields read.
-- Assumes nothing.
use mathlib.Core.Path.{ap, ◌∙◌}
use Rattle.kinds.specs.Kinds.{primitive}
use Rattle.component.proofs.reader.is_primitive_at.Goals as goal

pub returns : goal.returns
returns c = c.is_primitive.ensures ∙ ap primitive c.fields_at.ensures
