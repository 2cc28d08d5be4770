-- `list_targets`: a way out with no depth left, at a primitive, and a turn of the loop over a composite's input maps, each by its law.
-- Assumes nothing.
use Rattle.std.proofs.Common.{arith, rules}
use Rattle.flatten.proofs.DescentLaws.{stretch_is}
use Rattle.flatten.proofs.TargetsLaws.{list_bottom, list_room, list_here, list_maps, list_to_room, list_to, list_nothing, primitive_number}
use Rattle.flatten.proofs.descent.+list_targets.Goals as goal
use Rattle.flatten.proofs.descent.+list_targets.Goals.{in-Some, in_default}

-- no depth left
pub returns-then-depth-eq0 : goal.returns-then-depth-eq0
returns-then-depth-eq0 t c = search (list_bottom)

-- a primitive
pub lay_target-requires : goal.lay_target-requires
lay_target-requires t c = (search (list_room), search (primitive_number))

pub returns-then-is_primitive_at : goal.returns-then-is_primitive_at
returns-then-is_primitive_at t c = search (list_here)

-- a composite
pub loop-q-init : goal.loop-q-init
loop-q-init t c = search (list_maps, stretch_is)

pub list_targets-next-requires : goal.list_targets-next-requires
list_targets-next-requires t c = (omega arith, (search rules, search (list_to_room)))

pub loop-q-preserved : goal.loop-q-preserved
loop-q-preserved t c =
    elim c.match-enter.branch [ in-Some w ↦ rw (w.targets-is, w.next-is) (search (list_to)) | in_default w ↦ rw (w.targets-is, w.next-is) (search (list_nothing)) ]
