-- `source_of`: the depth left falls at every call, and a composite's output is what its output map says.
-- Assumes nothing.
use Rattle.component.proofs.RecordLaws.{but_output_map}
use Rattle.flatten.proofs.DescentLaws.{source_bottom, source_here, source_refused, source_unmapped, source_below}
use Rattle.flatten.proofs.descent.+source_of.Goals as goal

-- no depth left
pub returns-then-depth-eq0 : goal.returns-then-depth-eq0
returns-then-depth-eq0 t c = search (source_bottom)

-- a primitive
pub returns-then-is_primitive_at : goal.returns-then-is_primitive_at
returns-then-is_primitive_at t c = search (source_here)

-- a composite's output, whose map is refused
pub returns-in_default : goal.returns-in_default
returns-in_default t c = search (source_refused)

-- is no output map
pub returns-in_default-says : goal.returns-in_default-says
returns-in_default-says t c = let o = but_output_map c.in-Taken.says c.in_default-says.not-OutputMap in search (source_unmapped)

-- is one
pub returns : goal.returns
returns t c = search (source_below)
