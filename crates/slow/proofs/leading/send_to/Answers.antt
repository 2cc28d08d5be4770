-- `send_to`: what the wires to the targets still to come make of the state is what all of them make of the state that came in.
-- Assumes nothing.
use mathlib.Core.Path.{refl, ◌∙◌}
use mathlib.Core.List.{[]}
use native.Mathlib.Omega.{arith}
use lib.ListN.{take}
use Rattle.flatten.specs.Targets.{target_in}
use Rattle.tables.specs.Tables.{counts_of}
use Rattle.rounds.specs.Steps.{bare, state_at, CanReach}
use Rattle.rounds.proofs.StepsLaws.{send_bare, reach_sends, sent_listed}
use Rattle.slow.specs.Sending.{lead_to}
use Rattle.slow.proofs.LeadingLaws.{sends_start, sends_next, sends_end, reach_kept}
use Rattle.slow.proofs.leading.send_to.Goals as goal

pub loop-k-init : goal.loop-k-init
loop-k-init c = (
  refl,
  refl,
  c.requires.list_marked.0,
  sends_start (bare c.args.components.now) (state_at c.args.inputs.now c.args.outputs.now (take c.args.filled c.args.following.now) [])
      c.args.indexes.now c.args.targets.now c.args.from c.args.count,
)

pub target_at-requires : goal.target_at-requires
target_at-requires c = omega (arith, c.requires.indexes_len.1, c.loop-k-test.true)

pub flat_pin-to-requires : goal.flat_pin-to-requires
flat_pin-to-requires c =
    (c.requires.indexes_len.0, rw c.target_at.ensures (c.requires.indexes_len.2 c.loop-k.k (omega arith)))

pub send_along-reached-requires : goal.send_along-reached-requires
send_along-reached-requires c =
    let l = c.loop-k in
    let reach : CanReach (bare c.args.components.now) l.inputs c.args.outputs.now (record { src = c.args.from; dst = c.flat_pin-to.result }) =
    reach_kept (bare c.args.components.now) c.args.inputs.now c.args.outputs.now l.inputs _
    (rw (c.flat_pin-to.ensures.0, c.target_at.ensures) (c.requires.list_marked.1 l.k (omega arith))) l.invariant.0 in (
      reach_sends c.args.components.now [] (counts_of 256 1024 1024 0 256 256 256) l.inputs c.args.outputs.now _ reach
          l.reached l.following l.invariant.2.fits,
      l.invariant.2.marked,
    )

pub loop-k-preserved : goal.loop-k-preserved
loop-k-preserved c =
    let l = c.loop-k in
    let r = c.send_along-reached in
    let reach : CanReach (bare c.args.components.now) l.inputs c.args.outputs.now (record { src = c.args.from; dst = c.flat_pin-to.result }) =
    reach_kept (bare c.args.components.now) c.args.inputs.now c.args.outputs.now l.inputs _
    (rw (c.flat_pin-to.ensures.0, c.target_at.ensures) (c.requires.list_marked.1 l.k (omega arith))) l.invariant.0 in (
      r.auto.inputs ∙ l.invariant.0,
      r.auto.following ∙ l.invariant.1,
      record {
        fits = sent_listed c.args.components.now [] (counts_of 256 1024 1024 0 256 256 256) l.inputs c.args.outputs.now _ reach
            l.reached l.following l.invariant.2.fits _ _ _ r.ensures.0 r.auto.following;
        marked = r.ensures.1;
      },
      sends_next (bare c.args.components.now) l.k c.args.count (state_at l.inputs c.args.outputs.now (take l.reached l.following) []) _
          (λ j. lead_to c.args.indexes.now c.args.from (target_in c.args.targets.now j)) _ (omega arith)
          (r.ensures.0.state ∙ send_bare c.args.components.now _ _
          ∙ rw (c.flat_pin-to.ensures.0, c.target_at.ensures) refl)
          l.invariant.3,
    )

pub returns : goal.returns
returns c =
    let l = c.loop-k in (
      sends_end (bare c.args.components.now) l.k c.args.count _ _
          (λ j. lead_to c.args.indexes.now c.args.from (target_in c.args.targets.now j)) (omega arith) l.invariant.3,
      l.invariant.2,
    )
