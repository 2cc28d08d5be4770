-- `is_led_into`: one of the records still to come leads into component i exactly if one of all does.
-- Assumes nothing.
use mathlib.Core.Path.{refl, sym, ◌∙◌}
use native.Mathlib.Omega.{arith}
use Rattle.lists.proofs.ListsLaws.{any_here, any_next, any_none}
use Rattle.component.specs.Record.{record_at, record_count}
use Rattle.slow.specs.Slow.{enters_by}
use Rattle.slow.proofs.LeadingLaws.{led_into-start}
use Rattle.slow.proofs.entering.is_led_into.Goals as goal

pub loop-p-init : goal.loop-p-init
loop-p-init c = let a = c.args in (refl, led_into-start a.file.now a.i)

pub enters-requires : goal.enters-requires
enters-requires c = (c.requires, c.loop-p-test.true, c.loop-p.invariant.0)

pub returns-then-enters : goal.returns-then-enters
returns-then-enters c =
    let a = c.args in
    let l = c.loop-p in
    any_here (enters_by (record_at a.file.now) (record_count a.file.now) a.i) l.p (record_count a.file.now) _ l.invariant.1
    c.loop-p-test.true (sym c.enters.ensures.0 ∙ c.if-enters.true)

pub loop-p-preserved : goal.loop-p-preserved
loop-p-preserved c =
    let a = c.args in
    let l = c.loop-p in (
      c.enters.ensures.1,
      any_next (enters_by (record_at a.file.now) (record_count a.file.now) a.i) l.p (record_count a.file.now) _ l.invariant.1
          c.loop-p-test.true (sym c.enters.ensures.0 ∙ c.if-enters.false),
    )

pub returns : goal.returns
returns c =
    let a = c.args in
    let l = c.loop-p in
    any_none (enters_by (record_at a.file.now) (record_count a.file.now) a.i) l.p (record_count a.file.now) _ l.invariant.1 (omega arith)
