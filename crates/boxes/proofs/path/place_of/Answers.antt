-- `place_of`: what the ids to come name below the component found so far is the answer.
-- Assumes nothing.
use mathlib.Core.Path.{refl}
use Rattle.flatten.proofs.Accepted.{accepted_readable}
use Rattle.boxes.proofs.PathLaws.{place_next, place_missed, place_end}
use Rattle.boxes.proofs.path.place_of.Goals as goal

pub loop-id-init : goal.loop-id-init
loop-id-init c = refl

pub child_named-c-requires : goal.child_named-c-requires
child_named-c-requires c = search (accepted_readable)

pub returns-then-c-n : goal.returns-then-c-n
returns-then-c-n c = search (place_missed)

pub loop-id-preserved : goal.loop-id-preserved
loop-id-preserved c = search (place_next)

pub returns : goal.returns
returns c = search (place_end)
