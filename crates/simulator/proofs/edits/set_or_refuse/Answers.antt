-- `set_or_refuse`: refused by the checks, and nothing written; or the port set, which is there.
-- Assumes nothing.
use mathlib.Core.Path.{◌≡◌, sym, ◌∙◌}
use Rattle.kinds.specs.Given.{refusing}
use Rattle.kinds.proofs.GivenLaws.{handed_on, refusing_err, refusing_ok}
use Rattle.tables.specs.Tables.{tables_of}
use Rattle.simulator.specs.Calls.{edit_number}
use Rattle.simulator.proofs.EditsLaws.{edit_row, edit_output, edit_input, after_refused}
use Rattle.simulator.proofs.edits.set_or_refuse.Goals as goal

pub returns-in_err-check_edit : goal.returns-in_err-check_edit
returns-in_err-check_edit c =
    let a = c.args in
    let came = tables_of a.components.now a.inputs.now a.outputs.now a.wires.now a.current.now a.following.now a.standing.now a.counts in
    let said : c.check_edit.result ≡ refusing (edit_number came a.i a.number) = rw c.new-lent.ensures at c.check_edit.ensures in
    let ne = (refusing_err (edit_number came a.i a.number) _ _ said c.in_err-check_edit.was).0 in (
      rw (handed_on c.from_residual.result _ c.from_residual.ensures.1) (sym c.in_err-check_edit.was ∙ said),
      after_refused _ _ _ ne,
      after_refused _ _ _ ne,
    )

pub set_port-requires : goal.set_port-requires
set_port-requires c =
    let a = c.args in
    let came = tables_of a.components.now a.inputs.now a.outputs.now a.wires.now a.current.now a.following.now a.standing.now a.counts in
    let z = refusing_ok (edit_number came a.i a.number) _ (rw c.new-lent.ensures at c.check_edit.ensures) c.in_ok-check_edit.was in
    (edit_row came a.i a.number z, edit_output came a.i a.number z, edit_input came a.i a.number z)

pub returns : goal.returns
returns c =
    let a = c.args in
    let came = tables_of a.components.now a.inputs.now a.outputs.now a.wires.now a.current.now a.following.now a.standing.now a.counts in
    let said : c.check_edit.result ≡ refusing (edit_number came a.i a.number) = rw c.new-lent.ensures at c.check_edit.ensures in
    let z = refusing_ok (edit_number came a.i a.number) _ said c.in_ok-check_edit.was in
    (sym c.in_ok-check_edit.was ∙ said, rw z c.set_port.ensures.0, rw z c.set_port.ensures.1)
