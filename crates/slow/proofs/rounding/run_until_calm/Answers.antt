-- `run_until_calm`: refused by its checks, or the run straight from the drawing.
-- Assumes nothing.
use mathlib.Core.Path.{refl, sym, ap, ◌∙◌}
use mathlib.Core.Bool.{Bool}
use mathlib.Core.List.{[]}
use native.Mathlib.Omega.{arith}
use Rattle.kinds.proofs.GivenLaws.{handed_on}
use Rattle.component.specs.Record.{IsBytes, record_at, record_count}
use Rattle.tables.specs.Tables.{Tables, tables_of}
use Rattle.simulator.specs.Calls.{run_by}
use Rattle.slow.specs.Slow.{slow_tables_of, slow_number, slow_verdict, slow_round_of, slow_bits}
use Rattle.slow.specs.Sending.{prepared_verdict}
use Rattle.slow.proofs.CallsLaws.{run_refused, run_done, prepared_is, prepared_for}
use Rattle.slow.proofs.RunsLaws.{run_starts}
use Rattle.slow.proofs.rounding.run_until_calm.Goals as goal

pub prepare-requires : goal.prepare-requires
prepare-requires c = record { index_len = (refl, refl, refl); counts_value = λ e. sym (c.are_full-long.ensures c.args.counts) ∙ e }

pub run_over-made-requires : goal.run_over-made-requires
run_over-made-requires c =
    let a = c.args in
    let flat = prepared_for a.file.now _ _ _ _ _ _ _ _ _ _ (c.prepare.ensures.1 _ c.in_ok-count.was) _ c.counts_for.ensures in
    let bytes : IsBytes a.file.now = λ i. omega (arith, c.type_inv.file i) in
    run_starts a.file.now _ _ _ _ _ _ _ _ _ bytes flat.0 flat.1

pub returns-in_err-count : goal.returns-in_err-count
returns-in_err-count c =
    let a = c.args in
    let S = slow_tables_of a.inputs.now a.outputs.now a.current.now a.following.now a.standing.now a.counts in
    let said = c.prepare.ensures.0
    ∙ ap (λ (b : Bool). slow_verdict a.file.now b (slow_number (record_at a.file.now) (record_count a.file.now) S))
    (c.are_full-long.ensures a.counts) in
    rw (handed_on c.from_residual.result _ c.from_residual.ensures.1)
    (run_refused c.args.file.now S c.args.time c.args.limit _
    (ap prepared_verdict (sym c.in_err-count.was) ∙ said))

pub returns : goal.returns
returns c =
    let a = c.args in
    let S = slow_tables_of a.inputs.now a.outputs.now a.current.now a.following.now a.standing.now a.counts in
    let said = c.prepare.ensures.0
    ∙ ap (λ (b : Bool). slow_verdict a.file.now b (slow_number (record_at a.file.now) (record_count a.file.now) S))
    (c.are_full-long.ensures a.counts) in
    let at = record_at a.file.now in
    let n = record_count a.file.now in
    let p = c.prepare.ensures.1 _ c.in_ok-count.was in
    let r = c.run_over-made in
    let U = tables_of c.prepare.new.components r.new.inputs r.new.outputs []
    r.new.current r.new.following r.new.standing r.result.counts in
    rw c.slow_counts.ensures
    (run_done a.file.now S a.time a.limit U r.result.rounds r.result.evaluations r.result.moved
    (ap prepared_verdict (sym c.in_ok-count.was) ∙ said)
    (r.ensures
    ∙ ap (λ (T : Tables). run_by (slow_round_of at n a.time) (slow_bits at n a.time) a.limit T)
    (prepared_is a.file.now _ _ _ _ _ _ _ _ _ _ p _ c.counts_for.ensures)))
