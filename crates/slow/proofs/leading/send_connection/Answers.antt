-- `send_connection`: a connection from component i is sent along to each of its targets; any other record has no wire that leaves it.
-- Assumes nothing.
use mathlib.Core.Path.{refl, ap, ◌∙◌}
use mathlib.Core.List.{[], foldl}
use Prim.Native.Nat.{◌/◌}
use native.Mathlib.Omega.{arith}
use lib.ListN.{length, take}
use Rattle.component.specs.Record.{record_count}
use Rattle.flatten.proofs.Accepted.{accepted_passed}
use Rattle.flatten.proofs.DescentLaws.{connection_at}
use Rattle.flatten.proofs.TargetsLaws.{listed_length}
use Rattle.flatten.proofs.ConnectionLaws.{connection_room, connection_within}
use Rattle.laying.proofs.WiresLaws.{source_number, targets_small}
use Rattle.rounds.specs.Round.{send}
use Rattle.rounds.specs.Steps.{bare, state_at}
use Rattle.slow.proofs.DrawingLaws.{leaving_reach}
use Rattle.component.proofs.RecordLaws.{but_connection}
use Rattle.slow.proofs.LeadingLaws.{leaves_refused, leaves_other, leaves_elsewhere, leaves_here, here_member}
use Rattle.slow.proofs.leading.send_connection.Goals as goal

pub returns-in_default : goal.returns-in_default
returns-in_default c = (
  ap (foldl (send (bare c.args.components.now)) (state_at c.args.inputs.now c.args.outputs.now (take c.args.filled c.args.following.now) []))
      (leaves_refused c.args.file.now (record_count c.args.file.now) c.args.i c.args.p _ c.known_at.ensures
      c.in_default.is),
  c.requires.list_marked,
  c.requires.drawing.2,
)

pub returns-in_default-says : goal.returns-in_default-says
returns-in_default-says c = (
  ap (foldl (send (bare c.args.components.now)) (state_at c.args.inputs.now c.args.outputs.now (take c.args.filled c.args.following.now) []))
      (leaves_other c.args.file.now (record_count c.args.file.now) c.args.i c.args.p _ _ _ c.known_at.ensures
      c.in-Taken.is (but_connection _ c.in_default-says.not-Connection)),
  c.requires.list_marked,
  c.requires.drawing.2,
)

pub flat_pin-end-requires : goal.flat_pin-end-requires
flat_pin-end-requires c =
    let r = c.requires.drawing.0.ready in (
      r.indexes.size,
      source_number c.args.file.now _ _ r c.args.p c.requires.drawing.1 _ _ _ _ _ (connection_at c.args.file.now (length c.args.file.now / 24) c.args.p _ c.known_at.ensures _ _ _ _ _ _ c.in-Taken.is c.in-Connection.is) _ _ _ refl
          c.child_of-start.ensures c.source_from-source.ensures,
    )

pub returns-then-end-i : goal.returns-then-end-i
returns-then-end-i c = (
  ap (foldl (send (bare c.args.components.now)) (state_at c.args.inputs.now c.args.outputs.now (take c.args.filled c.args.following.now) []))
      (leaves_elsewhere c.args.file.now _ _ c.requires.drawing.0.ready c.args.p c.requires.drawing.1 _ _ _ _ _ (connection_at c.args.file.now (length c.args.file.now / 24) c.args.p _ c.known_at.ensures _ _ _ _ _ _ c.in-Taken.is c.in-Connection.is) _ _ _ refl
      c.child_of-start.ensures c.source_from-source.ensures _ c.flat_pin-end.ensures.0 c.args.i c.if-end-i.true),
  c.requires.list_marked,
  c.requires.drawing.2,
)

pub child_of-goal-requires : goal.child_of-goal-requires
child_of-goal-requires c = c.requires.drawing.0.ready.indexed

pub targets_from-count-requires : goal.targets_from-count-requires
targets_from-count-requires c =
    let r = c.requires.drawing.0.ready in
    let room = connection_room c.args.file.now _ (accepted_passed c.args.file.now r.accepted) c.args.p c.requires.drawing.1 _ _ _ _ _
    (connection_at c.args.file.now (length c.args.file.now / 24) c.args.p _ c.known_at.ensures _ _ _ _ _ _ c.in-Taken.is c.in-Connection.is) _ _ refl c.child_of-goal.ensures in
    (r.indexed, omega (arith, room, c.requires.drawing.2))

pub send_to-requires : goal.send_to-requires
send_to-requires c =
    let r = c.requires.drawing.0.ready in
    let e = (connection_at c.args.file.now (length c.args.file.now / 24) c.args.p _ c.known_at.ensures _ _ _ _ _ _ c.in-Taken.is c.in-Connection.is) in
    let t = c.targets_from-count in record {
      indexes_len = (
        r.indexes.size,
        connection_within c.args.file.now _ (accepted_passed c.args.file.now r.accepted) c.args.p c.requires.drawing.1 _ _ _ _ _ e
            _ _ refl c.child_of-goal.ensures _ _ _ t.ensures c.requires.drawing.2,
        targets_small c.args.file.now _ _ r c.args.p c.requires.drawing.1 _ _ _ _ _ e _ _ _ refl c.child_of-start.ensures
            c.source_from-source.ensures _ _ refl c.child_of-goal.ensures _ _ _ t.ensures c.requires.drawing.2,
      );
      list_marked = (
        c.requires.list_marked,
        λ k h. leaving_reach c.args.file.now _ _ _ _ _ c.requires.drawing.0 c.args.i _
            (here_member c.args.file.now _ _ r c.args.p c.requires.drawing.1 _ _ _ _ _ e _ _ _ refl c.child_of-start.ensures
            c.source_from-source.ensures _ c.flat_pin-end.ensures.0 c.args.i _ _ refl c.child_of-goal.ensures _ _ _
            t.ensures c.requires.drawing.2 c.if-end-i.false k h),
      );
    }

pub shape_of-targets : goal.shape_of-targets
shape_of-targets c = listed_length _ _ _ _ c.targets_from-count.ensures

pub returns : goal.returns
returns c =
    let r = c.requires.drawing.0.ready in
    let t = c.targets_from-count in (
      c.send_to.ensures.0
          ∙ ap (foldl (send (bare c.args.components.now)) (state_at c.args.inputs.now c.args.outputs.now (take c.args.filled c.args.following.now) []))
          (leaves_here c.args.file.now _ _ r c.args.p c.requires.drawing.1 _ _ _ _ _ (connection_at c.args.file.now (length c.args.file.now / 24) c.args.p _ c.known_at.ensures _ _ _ _ _ _ c.in-Taken.is c.in-Connection.is) _ _ _ refl c.child_of-start.ensures
          c.source_from-source.ensures _ c.flat_pin-end.ensures.0 c.args.i _ _ refl c.child_of-goal.ensures _ _ _
          t.ensures c.requires.drawing.2 c.if-end-i.false),
      c.send_to.ensures.1,
      listed_length _ _ _ _ t.ensures ∙ c.requires.drawing.2,
    )
