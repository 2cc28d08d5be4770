-- `source_from`: a primitive, or the descent from the greatest depth.
-- Assumes nothing.
use Rattle.flatten.proofs.DescentLaws.{deepest_some, source_here}
use Rattle.flatten.specs.Descent.{output_below}
use Rattle.component.specs.Drawing.{deepest}
use Rattle.component.specs.Record.{record_at}
use lib.ListN.{length}
use Prim.Native.Nat.{ℕ, ◌/◌}
use mathlib.Core.Path.{ap, ◌∙◌}
use Rattle.flatten.proofs.descent.source_from.Goals as goal

pub returns-then-is_primitive_at : goal.returns-then-is_primitive_at
returns-then-is_primitive_at c =
    let a = c.args in
    source_here a.file.now (length a.file.now / 24) deepest a.c a.i _ deepest_some c.is_primitive_at.ensures c.if-is_primitive_at.true

pub returns : goal.returns
returns c =
    let a = c.args in
    c.source_of.ensures ∙ ap (λ (d : ℕ). output_below (record_at a.file.now) (length a.file.now / 24) d a.c a.i) c.deepest.ensures
