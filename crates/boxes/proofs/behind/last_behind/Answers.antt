-- `last_behind`: nothing was listed, or the last entry.
-- Assumes nothing.
use mathlib.Core.Path.{refl}
use Rattle.flatten.specs.Descent.{pin}
use Rattle.component.specs.Record.{record_count}
use Rattle.boxes.proofs.BehindLaws.{accepted_most, behind_room, behind_empty, behind_within, behind_last}
use Rattle.boxes.proofs.behind.last_behind.Goals as goal

pub list_targets-count-requires : goal.list_targets-count-requires
list_targets-count-requires c =
    let a = c.args in record { index = (c.requires.1, accepted_most a.file.now c.requires.0); i_in_bounds = behind_room a.file.now c.requires.0 _ a.c a.i c.deepest.ensures c.requires.2 }

pub returns-then-count-eq0 : goal.returns-then-count-eq0
returns-then-count-eq0 c =
    let a = c.args in
    behind_empty a.file.now c.requires.0 _ a.c a.i c.deepest.ensures c.requires.2 _ _ _
    c.list_targets-count.ensures refl c.if-count-eq0.true (pin (record_count a.file.now) 0)

pub target_at-requires : goal.target_at-requires
target_at-requires c =
    let a = c.args in
    behind_within a.file.now c.requires.0 _ a.c a.i c.deepest.ensures c.requires.2 _ _ _
    c.list_targets-count.ensures refl c.if-count-eq0.false

pub returns : goal.returns
returns c =
    let a = c.args in
    behind_last a.file.now c.requires.0 _ a.c a.i c.deepest.ensures c.requires.2 _ _ _
    c.list_targets-count.ensures refl c.if-count-eq0.false _ _ c.target_at.ensures
