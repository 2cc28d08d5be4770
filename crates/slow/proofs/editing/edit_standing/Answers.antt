-- `edit_standing`: refused by its checks, or the port set and the component in the standing list.
-- Assumes nothing.
use native.Mathlib.Omega.{arith}
use Rattle.kinds.proofs.GivenLaws.{handed_on}
use Rattle.simulator.specs.Edit.{stands}
use Rattle.slow.proofs.EditingLaws.{edits_refused, edits_index, edits_room_standing, edits_stand}
use Rattle.slow.proofs.editing.edit_standing.Goals as goal

pub returns-in_err-set_or_refuse : goal.returns-in_err-set_or_refuse
returns-in_err-set_or_refuse c =
    let a = c.args in
    let q = c.set_or_refuse.ensures in
    rw (handed_on c.from_residual.result _ c.from_residual.ensures.1)
    (edits_refused a.file.now a.inputs.now a.outputs.now a.current.now a.following.now a.standing.now a.counts a.index.0
    a.number _ q.0 _ _ q.1 q.2 stands _ c.in_err-set_or_refuse.was)

pub overflow_cast-index : goal.overflow_cast-index
overflow_cast-index c =
    let a = c.args in
    let q = c.set_or_refuse.ensures in
    omega (
      arith,
      edits_index a.file.now a.inputs.now a.outputs.now a.current.now a.following.now a.standing.now a.counts
          a.index.0 a.number _ q.0 _ _ q.1 q.2 c.in_ok-set_or_refuse.was,
    )

pub append_new-requires : goal.append_new-requires
append_new-requires c =
    let a = c.args in
    let q = c.set_or_refuse.ensures in
    edits_room_standing a.file.now a.inputs.now a.outputs.now a.current.now a.following.now a.standing.now a.counts
    a.index.0 a.number _ q.0 _ _ q.1 q.2 c.in_ok-set_or_refuse.was

pub returns : goal.returns
returns c =
    let a = c.args in
    let q = c.set_or_refuse.ensures in
    let e = c.append_new.ensures in
    edits_stand a.file.now a.inputs.now a.outputs.now a.current.now a.following.now a.standing.now a.counts
    a.index.0 a.number _ q.0 _ _ q.1 q.2 c.in_ok-set_or_refuse.was _ _ e.0 e.1
