-- `send_leaving` over the drawing: what the records still to come make of the state is what all of them make of the state that came in.
-- Assumes nothing.
use mathlib.Core.Path.{refl, ◌∙◌}
use mathlib.Core.List.{[]}
use native.Mathlib.Omega.{arith}
use lib.ListN.{take}
use Rattle.component.specs.Record.{record_at, record_count}
use Rattle.rounds.specs.Steps.{bare, state_at}
use Rattle.slow.specs.Slow.{leaving_by}
use Rattle.slow.specs.Sending.{drawing_kept}
use Rattle.slow.proofs.LeadingLaws.{records_start, records_next, records_end}
use Rattle.slow.proofs.leading.DrawnWiring.send_leaving.Goals as goal

pub loop-p-init : goal.loop-p-init
loop-p-init c = (
  refl,
  refl,
  refl,
  c.requires.1,
  records_start (bare c.args.components.now) (state_at c.args.inputs.now c.args.outputs.now
      (take c.args.count c.args.following.now) []) c.args.self.now.file.now c.args.i,
)

pub send_connection-reached-requires : goal.send_connection-reached-requires
send_connection-reached-requires c =
    let l = c.loop-p in record {
      drawing = (
        drawing_kept c.args.self.now.file.now _ _ _ c.args.inputs.now c.args.outputs.now l.inputs c.args.outputs.now c.requires.0
            l.invariant.0 refl,
        c.loop-p-test.true,
        l.invariant.2,
      );
      list_marked = l.invariant.3;
    }

pub loop-p-preserved : goal.loop-p-preserved
loop-p-preserved c =
    let l = c.loop-p in
    let b = c.loop-p-test.true in
    let r = c.send_connection-reached in (
      r.auto.inputs ∙ l.invariant.0,
      r.auto.following ∙ l.invariant.1,
      r.ensures.2,
      r.ensures.1,
      records_next (bare c.args.components.now) l.p (record_count c.args.self.now.file.now) _ _
          (leaving_by (record_at c.args.self.now.file.now) (record_count c.args.self.now.file.now) c.args.i) _ b r.ensures.0 l.invariant.4,
    )

pub returns : goal.returns
returns c =
    let l = c.loop-p in (
      records_end (bare c.args.components.now) l.p (record_count c.args.self.now.file.now) _ _
          (leaving_by (record_at c.args.self.now.file.now) (record_count c.args.self.now.file.now) c.args.i) (omega arith) l.invariant.4,
      l.invariant.3,
    )
