-- `yields_unlike`: a connection's source has the width that no target may differ from, and there are at most 1,024 targets.
-- Assumes nothing.
use Rattle.component.proofs.RecordLaws.{but_connection}
use Rattle.flatten.proofs.WidthsLaws.{fails15_refused, fails15_other, fails15_connection}
use mathlib.Core.Path.{refl, ◌∙◌}
use Prim.Native.Nat.{◌/◌}
use native.Mathlib.Omega.{arith}
use lib.ListN.{length}
use borrow.Author.Rules.{rules}
use Rattle.flatten.proofs.Accepted.{passed_before}
use Rattle.flatten.proofs.DescentLaws.{connection_at}
use Rattle.flatten.proofs.TargetsLaws.{listed_length}
use Rattle.flatten.proofs.ConnectionLaws.{connection_room, connection_within, connection_read}
use Rattle.flatten.proofs.widths.yields_unlike.Goals as goal

-- refused
pub returns-in_default : goal.returns-in_default
returns-in_default c = (search (fails15_refused), search rules)

-- no connection
pub returns-in_default-says : goal.returns-in_default-says
returns-in_default-says c = let o = but_connection c.in-Taken.says c.in_default-says.not-Connection in (search (fails15_other), search rules)

pub child_of-goal-requires : goal.child_of-goal-requires
child_of-goal-requires c = c.requires.index.0

pub targets_from-count-requires : goal.targets_from-count-requires
targets_from-count-requires c =
    let a = c.args in
    let at_p = connection_at a.file.now (length a.file.now / 24) a.p _ c.known_at.ensures _ _ _ _ _ _ c.in-Taken.is
    c.in-Connection.is in
    let room = connection_room a.file.now _ (passed_before a.file.now c.requires.passed_before) a.p c.requires.index.1 _ _ _ _ _ at_p
    _ _ refl c.child_of-goal.ensures in
    (c.requires.index.0, omega (arith, room, c.requires.index.2))

pub any_differs-requires : goal.any_differs-requires
any_differs-requires c =
    let a = c.args in
    let at_p = connection_at a.file.now (length a.file.now / 24) a.p _ c.known_at.ensures _ _ _ _ _ _ c.in-Taken.is
    c.in-Connection.is in (
      c.requires.index.0.readable,
      connection_within a.file.now _ (passed_before a.file.now c.requires.passed_before) a.p c.requires.index.1 _ _ _ _ _ at_p
          _ _ refl c.child_of-goal.ensures _ _ _ c.targets_from-count.ensures c.requires.index.2,
    )

pub shape_of-targets : goal.shape_of-targets
shape_of-targets c = listed_length _ _ _ _ c.targets_from-count.ensures

-- a connection
pub returns : goal.returns
returns c =
    let a = c.args in
    let at_p = connection_at a.file.now (length a.file.now / 24) a.p _ c.known_at.ensures _ _ _ _ _ _ c.in-Taken.is
    c.in-Connection.is in
    let read = connection_read a.file.now _ (passed_before a.file.now c.requires.passed_before) a.p c.requires.index.1 _ _ _ _ _ at_p
    _ _ refl c.child_of-goal.ensures _ _ _ c.targets_from-count.ensures c.requires.index.2 in (
      fails15_connection a.file.now a.p _ _ _ _ _ at_p _ _ _ _ _ _ _ read refl c.child_of-start.ensures
          c.source_from-source.ensures c.fields_at.ensures c.output_width-width.ensures c.any_differs.ensures,
      listed_length _ _ _ _ c.targets_from-count.ensures ∙ c.requires.index.2,
    )
