-- `round`: refused by its checks, or the round straight from the drawing.
-- Assumes nothing.
use mathlib.Core.Path.{refl, sym, ap, ◌∙◌}
use mathlib.Core.Bool.{Bool, ◌&&◌}
use mathlib.Core.List.{[]}
use native.Mathlib.Omega.{arith}
use lib.ListN.{length}
use Rattle.lists.specs.Lists.{overlay}
use lib.Dec.{leb}
use borrow.Author.Tests.{leb-true}
use Rattle.kinds.proofs.GivenLaws.{handed_on}
use Rattle.lists.proofs.TestsLaws.{and_left, and_right}
use Rattle.component.specs.Record.{IsBytes, record_at, record_count}
use Rattle.tables.specs.Tables.{Tables, tables_of}
use Rattle.slow.specs.Slow.{slow_tables_of, slow_of, slow_full, slow_number, slow_verdict, slow_round_of, slow_bits}
use Rattle.slow.specs.Sending.{prepared_verdict}
use Rattle.slow.proofs.PreparingLaws.{lent_room}
use Rattle.slow.proofs.CallsLaws.{round_refused, round_done, prepared_is, prepared_for}
use Rattle.slow.proofs.RunsLaws.{run_starts}
use Rattle.slow.proofs.rounding.round.Goals as goal

pub prepare-requires : goal.prepare-requires
prepare-requires c =
    record { index_len = (refl, refl, refl); counts_value = λ e. sym (c.are_full.ensures c.args.counts) ∙ and_left c.are_full.result (leb 256 (length c.args.moved.now)) e }

pub round-requires : goal.round-requires
round-requires c =
    let a = c.args in
    let S = slow_tables_of a.inputs.now a.outputs.now a.current.now a.following.now a.standing.now a.counts in
    let said = c.prepare.ensures.0
    ∙ ap (λ (b : Bool). slow_verdict a.file.now (b && leb 256 (length a.moved.now)) (slow_number (record_at a.file.now) (record_count a.file.now) S))
    (c.are_full.ensures a.counts) in
    let p = c.prepare.ensures.1 _ c.in_ok-count.was in
    let e = c.counts_for.ensures in
    let v = ap prepared_verdict (sym c.in_ok-count.was) ∙ said in
    let flat = prepared_for a.file.now _ _ _ _ _ _ _ _ _ _ p _ e in
    let bytes : IsBytes a.file.now = λ i. omega (arith, c.type_inv.file i) in (
      run_starts a.file.now _ _ _ _ _ _ _ _ _ bytes flat.0 flat.1,
      leb-true 256 (length a.moved.now) (and_right (slow_full S) (leb 256 (length a.moved.now))
          (lent_room a.file.now (slow_full S && leb 256 (length a.moved.now))
          (slow_number (record_at a.file.now) (record_count a.file.now) S) v)),
    )

pub returns-in_err-count : goal.returns-in_err-count
returns-in_err-count c =
    let a = c.args in
    let S = slow_tables_of a.inputs.now a.outputs.now a.current.now a.following.now a.standing.now a.counts in
    let said = c.prepare.ensures.0
    ∙ ap (λ (b : Bool). slow_verdict a.file.now (b && leb 256 (length a.moved.now)) (slow_number (record_at a.file.now) (record_count a.file.now) S))
    (c.are_full.ensures a.counts) in
    rw (handed_on c.from_residual.result _ c.from_residual.ensures.1)
    (round_refused c.args.file.now S c.args.moved.now c.args.time _
    (ap prepared_verdict (sym c.in_err-count.was) ∙ said))

pub returns : goal.returns
returns c =
    let a = c.args in
    let S = slow_tables_of a.inputs.now a.outputs.now a.current.now a.following.now a.standing.now a.counts in
    let said = c.prepare.ensures.0
    ∙ ap (λ (b : Bool). slow_verdict a.file.now (b && leb 256 (length a.moved.now)) (slow_number (record_at a.file.now) (record_count a.file.now) S))
    (c.are_full.ensures a.counts) in
    let p = c.prepare.ensures.1 _ c.in_ok-count.was in
    let at = record_at a.file.now in
    let n = record_count a.file.now in
    let r = c.round in
    let U = tables_of c.prepare.new.components r.new.inputs r.new.outputs []
    r.new.current r.new.following r.new.standing r.result in
    let e = prepared_is a.file.now _ _ _ _ _ _ _ _ _ _ p _ c.counts_for.ensures in
    rw c.slow_counts.ensures
    (round_done a.file.now S a.moved.now a.time (slow_of U) r.new.moved
    (ap prepared_verdict (sym c.in_ok-count.was) ∙ said)
    (ap slow_of (r.ensures.0 ∙ ap (slow_round_of at n a.time) e))
    (r.ensures.1 ∙ ap (λ (D : Tables). overlay (slow_bits at n a.time D) a.moved.now) e))
