-- `set_or_refuse`: refused by its checks, and nothing written; or the port set, which is there.
-- Assumes nothing.
use mathlib.Core.Path.{refl, sym, ap, ◌∙◌}
use mathlib.Core.Bool.{Bool}
use Rattle.kinds.specs.Given.{refusing}
use Rattle.kinds.proofs.GivenLaws.{handed_on, refusing_ok}
use Rattle.component.specs.Record.{record_at, record_count}
use Rattle.simulator.specs.Asked.{edit_refusal}
use Rattle.slow.specs.Slow.{slow_tables_of, slow_number, slow_verdict}
use Rattle.slow.specs.Sending.{prepared_verdict}
use Rattle.slow.proofs.EditingLaws.{edit_declined, edit_refused, edit_passed, number_given, row_there, port_output, port_input}
use Rattle.slow.proofs.editing.set_or_refuse.Goals as goal

pub prepare-requires : goal.prepare-requires
prepare-requires c = record { index_len = (refl, refl, refl); counts_value = λ e. sym (c.are_full-long.ensures c.args.counts) ∙ e }

pub is_led_into-entered-requires : goal.is_led_into-entered-requires
is_led_into-entered-requires c = (c.prepare.ensures.1 _ c.in_ok-count.was).ready

pub check_port-requires : goal.check_port-requires
check_port-requires c h =
    let a = c.args in
    row_there a.file.now _ _ _ _ _ _ _ _ _ _ (c.prepare.ensures.1 _ c.in_ok-count.was) a.i h

pub returns-in_err-check_port : goal.returns-in_err-check_port
returns-in_err-check_port c =
    let a = c.args in
    let S = slow_tables_of a.inputs.now a.outputs.now a.current.now a.following.now a.standing.now a.counts in
    let said = c.prepare.ensures.0
    ∙ ap (λ (b : Bool). slow_verdict a.file.now b (slow_number (record_at a.file.now) (record_count a.file.now) S)) (c.are_full-long.ensures a.counts) in
    let own = c.check_port.ensures
    ∙ ap (λ (b : Bool). refusing (edit_refusal c.prepare.new.components c.in_ok-count.count b a.i a.number)) c.is_led_into-entered.ensures in
    rw (handed_on c.from_residual-in_err-check_port.result _ c.from_residual-in_err-check_port.ensures.1)
    (edit_refused a.file.now _ _ _ _ _ _ _ _ _ _ (c.prepare.ensures.1 _ c.in_ok-count.was) a.i a.number
    (ap prepared_verdict (sym c.in_ok-count.was) ∙ said) _ own _ c.in_err-check_port.was)

pub set_port-requires : goal.set_port-requires
set_port-requires c =
    let a = c.args in
    let p = c.prepare.ensures.1 _ c.in_ok-count.was in
    let own = c.check_port.ensures
    ∙ ap (λ (b : Bool). refusing (edit_refusal c.prepare.new.components c.in_ok-count.count b a.i a.number)) c.is_led_into-entered.ensures in
    let z = refusing_ok _ _ own c.in_ok-check_port.was in (
      number_given a.file.now _ _ _ _ _ _ _ _ _ _ p a.i a.number z,
      port_output a.file.now _ _ _ _ _ _ _ _ _ _ p a.i a.number z,
      port_input a.file.now _ _ _ _ _ _ _ _ _ _ p a.i a.number z,
    )

pub returns-in_err-count : goal.returns-in_err-count
returns-in_err-count c =
    let a = c.args in
    let S = slow_tables_of a.inputs.now a.outputs.now a.current.now a.following.now a.standing.now a.counts in
    let said = c.prepare.ensures.0
    ∙ ap (λ (b : Bool). slow_verdict a.file.now b (slow_number (record_at a.file.now) (record_count a.file.now) S)) (c.are_full-long.ensures a.counts) in
    rw (handed_on c.from_residual.result _ c.from_residual.ensures.1)
    (edit_declined a.file.now S a.i a.number _ (ap prepared_verdict (sym c.in_err-count.was) ∙ said))

pub returns : goal.returns
returns c =
    let a = c.args in
    let S = slow_tables_of a.inputs.now a.outputs.now a.current.now a.following.now a.standing.now a.counts in
    let said = c.prepare.ensures.0
    ∙ ap (λ (b : Bool). slow_verdict a.file.now b (slow_number (record_at a.file.now) (record_count a.file.now) S)) (c.are_full-long.ensures a.counts) in
    let own = c.check_port.ensures
    ∙ ap (λ (b : Bool). refusing (edit_refusal c.prepare.new.components c.in_ok-count.count b a.i a.number)) c.is_led_into-entered.ensures in
    let p = c.prepare.ensures.1 _ c.in_ok-count.was in
    let z = refusing_ok _ _ own c.in_ok-check_port.was in
    edit_passed a.file.now _ _ _ _ _ _ _ _ _ _ p a.i a.number (ap prepared_verdict (sym c.in_ok-count.was) ∙ said) z _ _
    c.set_port.ensures.0 c.set_port.ensures.1
