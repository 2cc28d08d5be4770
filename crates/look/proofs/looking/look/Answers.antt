-- `look`: each way out is one of the cases of the definition.
-- Assumes nothing.
use mathlib.Core.Path.{sym, ◌∙◌}
use Rattle.kinds.proofs.GivenLaws.{handed_on, refusing_ok}
use Rattle.component.specs.Record.{record_at, record_count}
use Rattle.flatten.proofs.Accepted.{accepted_passed}
use Rattle.look.specs.Look.{look_number}
use Rattle.look.proofs.RowsLaws.{rows_held}
use Rattle.net.proofs.NetLaws.{net_number-0}
use Rattle.look.proofs.LookLaws.{own_passed, number_passed, look_own, look_refused, look_shown}
use Rattle.look.proofs.looking.look.Goals as goal

pub returns-in_err-judge_look : goal.returns-in_err-judge_look
returns-in_err-judge_look c =
    let a = c.args in
    rw (handed_on c.from_residual.result _ c.from_residual.ensures.1)
    (look_own a.file.now a.lent.now a.path.now a.numbers.now a.widths.now _ c.judge_look.ensures.value _ c.in_err-judge_look.was)

pub place_of-place-requires : goal.place_of-place-requires
place_of-place-requires c =
    let a = c.args in
    (own_passed a.file.now a.lent.now a.numbers.now a.widths.now (sym c.judge_look.ensures.value ∙ c.in_ok-judge_look.was)).judged

pub check_look-requires : goal.check_look-requires
check_look-requires c =
    let a = c.args in
    let p = own_passed a.file.now a.lent.now a.numbers.now a.widths.now (sym c.judge_look.ensures.value ∙ c.in_ok-judge_look.was) in
    record { file_value = (p.judged, c.judge_look.ensures.index c.in_ok-judge_look.was); lent_value = p.full }

pub returns-in_err-check_look : goal.returns-in_err-check_look
returns-in_err-check_look c =
    let a = c.args in
    rw (handed_on c.from_residual-in_err-check_look.result _ c.from_residual-in_err-check_look.ensures.1)
    (look_refused a.file.now a.lent.now a.path.now a.numbers.now a.widths.now _ c.judge_look.ensures.value c.in_ok-judge_look.was
    _ c.place_of-place.ensures _ c.check_look.ensures _ c.in_err-check_look.was)

pub show-requires : goal.show-requires
show-requires c =
    let a = c.args in
    let T = a.lent.now in
    let p = own_passed a.file.now T a.numbers.now a.widths.now (sym c.judge_look.ensures.value ∙ c.in_ok-judge_look.was) in
    let at = record_at a.file.now in
    let n = record_count a.file.now in
    let m = number_passed at n T _ (refusing_ok (look_number at n T c.place_of-place.result) _ c.check_look.ensures c.in_ok-check_look.was) in
    rw (c.components.ensures, c.inputs.ensures, c.outputs.ensures) (record {
      file_value = (p.judged, c.judge_look.ensures.index c.in_ok-judge_look.was, p.numbers_long, p.widths_long);
      rows_held = rows_held at n (accepted_passed a.file.now p.judged) T (sym (net_number-0 T p.full m.net)) m.match;
      c_value = m.closed;
    })

pub returns : goal.returns
returns c =
    let a = c.args in
    rw c.show.ensures.value
    (look_shown a.file.now a.lent.now a.path.now a.numbers.now a.widths.now _ c.judge_look.ensures.value c.in_ok-judge_look.was
    _ c.place_of-place.ensures _ c.check_look.ensures c.in_ok-check_look.was _ _
    (rw (c.components.ensures, c.inputs.ensures, c.outputs.ensures) at c.show.ensures.numbers_after)
    (rw (c.components.ensures, c.inputs.ensures, c.outputs.ensures) at c.show.ensures.widths_after))
