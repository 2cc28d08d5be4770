-- `enters`: a connection leads into component i where one of its targets is there; no other record does.
-- Assumes nothing.
use mathlib.Core.Path.{refl, ◌∙◌}
use Prim.Native.Nat.{◌/◌}
use native.Mathlib.Omega.{arith}
use lib.ListN.{length}
use Rattle.component.specs.Record.{record_count}
use Rattle.flatten.proofs.Accepted.{accepted_passed}
use Rattle.flatten.proofs.DescentLaws.{connection_at}
use Rattle.flatten.proofs.TargetsLaws.{listed_length}
use Rattle.flatten.proofs.ConnectionLaws.{connection_room, connection_within}
use Rattle.component.proofs.RecordLaws.{but_connection}
use Rattle.slow.proofs.LeadingLaws.{enters_refused, enters_other, entered_small, enters_here}
use borrow.Author.Rules.{rules}
use Rattle.slow.proofs.entering.enters.Goals as goal

pub returns-in_default : goal.returns-in_default
returns-in_default c = (
  enters_refused c.args.file.now (record_count c.args.file.now) c.args.i c.args.p _ c.known_at.ensures
      c.in_default.is,
  c.requires.2,
)

pub returns-in_default-says : goal.returns-in_default-says
returns-in_default-says c = (
  enters_other c.args.file.now (record_count c.args.file.now) c.args.i c.args.p _ _ _ c.known_at.ensures
      c.in-Taken.is (but_connection _ (assumption rules)),
  c.requires.2,
)

pub targets_from-count-requires : goal.targets_from-count-requires
targets_from-count-requires c =
    let e = connection_at c.args.file.now (length c.args.file.now / 24) c.args.p _ c.known_at.ensures _ _ _ _ _ _
    c.in-Taken.is c.in-Connection.is in
    let room = connection_room c.args.file.now _ (accepted_passed c.args.file.now c.requires.0.accepted) c.args.p c.requires.1 _ _ _ _ _
    e _ _ refl c.child_of-goal.ensures in
    (c.requires.0.indexed, omega (arith, room, c.requires.2))

pub any_into-requires : goal.any_into-requires
any_into-requires c =
    let e = connection_at c.args.file.now (length c.args.file.now / 24) c.args.p _ c.known_at.ensures _ _ _ _ _ _
    c.in-Taken.is c.in-Connection.is in
    let t = c.targets_from-count in (
      c.requires.0.indexes.size,
      connection_within c.args.file.now _ (accepted_passed c.args.file.now c.requires.0.accepted) c.args.p c.requires.1 _ _ _ _ _ e
          _ _ refl c.child_of-goal.ensures _ _ _ t.ensures c.requires.2,
      entered_small c.args.file.now _ _ c.requires.0 c.args.p c.requires.1 _ _ _ _ _ e _ _ refl c.child_of-goal.ensures _ _ _
          t.ensures c.requires.2,
    )

pub shape_of-targets : goal.shape_of-targets
shape_of-targets c = listed_length _ _ _ _ c.targets_from-count.ensures

pub returns : goal.returns
returns c =
    let e = connection_at c.args.file.now (length c.args.file.now / 24) c.args.p _ c.known_at.ensures _ _ _ _ _ _
    c.in-Taken.is c.in-Connection.is in
    let t = c.targets_from-count in (
      c.any_into.ensures
          ∙ enters_here c.args.file.now _ _ c.requires.0 c.args.p c.requires.1 _ _ _ _ _ e _ _ refl c.child_of-goal.ensures _ _ _
          t.ensures c.requires.2 c.args.i,
      listed_length _ _ _ _ t.ensures ∙ c.requires.2,
    )
