-- `connect`: a connection's wires lead from its source to its targets; any other record has none.
-- Assumes nothing.
use mathlib.Core.Path.{refl, ◌∙◌}
use Prim.Native.Nat.{◌/◌}
use Rattle.component.proofs.RecordLaws.{but_connection}
use native.Mathlib.Omega.{arith}
use lib.ListN.{length}
use borrow.Author.Rules.{rules}
use Rattle.flatten.proofs.Accepted.{accepted_passed}
use Rattle.flatten.proofs.DescentLaws.{connection_at}
use Rattle.flatten.proofs.TargetsLaws.{listed_length}
use Rattle.flatten.proofs.ConnectionLaws.{connection_room, connection_within}
use Rattle.laying.proofs.WiresLaws.{connect_refused, connect_other, source_number, targets_small, connect_room, connect_written}
use Rattle.laying.proofs.wires.connect.Goals as goal

pub returns-in_default : goal.returns-in_default
returns-in_default c = record { written = search (connect_refused); targets_len = search rules }

pub returns-in_default-says : goal.returns-in_default-says
returns-in_default-says c =
    let o = but_connection c.in-Taken.says c.in_default-says.not-Connection in record { written = search (connect_other); targets_len = search rules }

pub flat_pin-flat-requires : goal.flat_pin-flat-requires
flat_pin-flat-requires c =
    let a = c.args in
    let at_p = connection_at a.file.now (length a.file.now / 24) a.p _ c.known_at.ensures _ _ _ _ _ _ c.in-Taken.is
    c.in-Connection.is in (
      c.requires.ready.0.indexes.size,
      source_number a.file.now _ _ c.requires.ready.0 a.p c.requires.p_bound.0 _ _ _ _ _ at_p _ _ _ refl
          c.child_of-start.ensures c.source_from-source.ensures,
    )

pub child_of-goal-requires : goal.child_of-goal-requires
child_of-goal-requires c = c.requires.ready.0.indexed

pub targets_from-count-requires : goal.targets_from-count-requires
targets_from-count-requires c =
    let a = c.args in
    let at_p = connection_at a.file.now (length a.file.now / 24) a.p _ c.known_at.ensures _ _ _ _ _ _ c.in-Taken.is
    c.in-Connection.is in
    let room = connection_room a.file.now _ (accepted_passed a.file.now c.requires.ready.0.accepted)
    a.p c.requires.p_bound.0 _ _ _ _ _ at_p _ _ refl c.child_of-goal.ensures in
    (c.requires.ready.0.indexed, omega (arith, room, c.requires.ready.1))

pub lay_leads-requires : goal.lay_leads-requires
lay_leads-requires c =
    let a = c.args in
    let at_p = connection_at a.file.now (length a.file.now / 24) a.p _ c.known_at.ensures _ _ _ _ _ _ c.in-Taken.is
    c.in-Connection.is in record {
      indexes_len = (
        c.requires.ready.0.indexes.size,
        c.flat_pin-flat.ensures.1,
        connect_room a.file.now _ _ c.requires.ready.0 a.p c.requires.p_bound.0 _ _ _ _ _ at_p _ _ _ refl c.child_of-start.ensures
            c.source_from-source.ensures _ _ refl c.child_of-goal.ensures _ _ _ c.targets_from-count.ensures c.requires.ready.1
            _ c.flat_pin-flat.ensures.0 a.wires.now a.at c.requires.p_bound.1,
      );
      count_in_bounds = (
        connection_within a.file.now _ (accepted_passed a.file.now c.requires.ready.0.accepted) a.p c.requires.p_bound.0 _ _ _ _ _ at_p
            _ _ refl c.child_of-goal.ensures _ _ _ c.targets_from-count.ensures c.requires.ready.1,
        targets_small a.file.now _ _ c.requires.ready.0 a.p c.requires.p_bound.0 _ _ _ _ _ at_p _ _ _ refl c.child_of-start.ensures
            c.source_from-source.ensures _ _ refl c.child_of-goal.ensures _ _ _ c.targets_from-count.ensures c.requires.ready.1,
      );
    }

pub shape_of-targets : goal.shape_of-targets
shape_of-targets c = listed_length _ _ _ _ c.targets_from-count.ensures

pub returns : goal.returns
returns c =
    let a = c.args in
    let at_p = connection_at a.file.now (length a.file.now / 24) a.p _ c.known_at.ensures _ _ _ _ _ _ c.in-Taken.is
    c.in-Connection.is in record {
      written = connect_written a.file.now _ _ c.requires.ready.0 a.p c.requires.p_bound.0 _ _ _ _ _ at_p _ _ _ refl c.child_of-start.ensures
          c.source_from-source.ensures _ _ refl c.child_of-goal.ensures _ _ _ c.targets_from-count.ensures c.requires.ready.1
          _ c.flat_pin-flat.ensures.0 _ _ _ _ c.lay_leads.ensures;
      targets_len = listed_length _ _ _ _ c.targets_from-count.ensures ∙ c.requires.ready.1;
    }
