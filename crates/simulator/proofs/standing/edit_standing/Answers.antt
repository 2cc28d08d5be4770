-- `edit_standing`: refused by the checks, or the port set and the component in the standing list.
-- Assumes nothing.
use native.Mathlib.Omega.{arith}
use Rattle.kinds.proofs.GivenLaws.{handed_on, refusing_ok}
use Rattle.tables.specs.Tables.{tables_of}
use Rattle.rounds.proofs.Sound.{standing_in}
use Rattle.simulator.specs.Edit.{stands}
use Rattle.simulator.specs.Calls.{edit_number}
use Rattle.simulator.proofs.EditsLaws.{edit_index, edit_is_net, edit_room, edit_kept, edit_stands}
use Rattle.simulator.proofs.standing.edit_standing.Goals as goal

pub returns-in_err-set_or_refuse : goal.returns-in_err-set_or_refuse
returns-in_err-set_or_refuse c =
    let a = c.args in
    let q = c.set_or_refuse.ensures in
    rw (handed_on c.from_residual.result _ c.from_residual.ensures.1)
    (edit_kept a.components.now a.inputs.now a.outputs.now a.wires.now a.current.now a.following.now
    a.standing.now a.counts a.index.0 a.number
    _ _ q.1 q.2 stands _ _ q.0 c.in_err-set_or_refuse.was)

pub overflow_cast-index : goal.overflow_cast-index
overflow_cast-index c =
    let a = c.args in
    let came = tables_of a.components.now a.inputs.now a.outputs.now a.wires.now a.current.now a.following.now a.standing.now a.counts in
    let z = refusing_ok (edit_number came a.index.0 a.number) _ c.set_or_refuse.ensures.0 c.in_ok-set_or_refuse.was in
    omega (arith, edit_index came a.index.0 a.number z)

pub append_new-requires : goal.append_new-requires
append_new-requires c =
    let a = c.args in
    let came = tables_of a.components.now a.inputs.now a.outputs.now a.wires.now a.current.now a.following.now a.standing.now a.counts in
    let z = refusing_ok (edit_number came a.index.0 a.number) _ c.set_or_refuse.ensures.0 c.in_ok-set_or_refuse.was in
    (standing_in came (edit_is_net came a.index.0 a.number z), edit_room came a.index.0 a.number z)

pub returns : goal.returns
returns c =
    let a = c.args in
    let came = tables_of a.components.now a.inputs.now a.outputs.now a.wires.now a.current.now a.following.now a.standing.now a.counts in
    let q = c.set_or_refuse.ensures in
    let e = c.append_new.ensures in
    edit_stands a.components.now a.inputs.now a.outputs.now a.wires.now a.current.now a.following.now
    a.standing.now a.counts a.index.0 a.number
    _ _ q.1 q.2 (refusing_ok (edit_number came a.index.0 a.number) _ q.0 c.in_ok-set_or_refuse.was) _ _ e.0 e.1
