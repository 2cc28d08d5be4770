-- `is_open`: nothing was listed.
-- Assumes nothing.
use mathlib.Core.Path.{refl}
use Rattle.boxes.proofs.BehindLaws.{accepted_most, behind_room, behind_none}
use Rattle.boxes.proofs.behind.is_open.Goals as goal

pub list_targets-requires : goal.list_targets-requires
list_targets-requires c =
    let a = c.args in record { index = (c.requires.1, accepted_most a.file.now c.requires.0); i_in_bounds = behind_room a.file.now c.requires.0 _ a.c a.i c.deepest.ensures c.requires.2 }

pub returns : goal.returns
returns c =
    let a = c.args in
    behind_none a.file.now c.requires.0 _ a.c a.i c.deepest.ensures c.requires.2 _ _ _
    c.list_targets.ensures refl
