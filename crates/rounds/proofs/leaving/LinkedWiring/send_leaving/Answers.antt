-- `send_leaving` over links: what the wires still met make of the state is what all that are met make of the state that came in.
-- Assumes nothing.
use mathlib.Core.Path.{refl, sym, ap, ◌∙◌}
use mathlib.Core.List.{List, [], foldl, map}
use Prim.Native.Nat.{ℕ}
use native.Mathlib.Omega.{arith}
use lib.ListN.{get_or, take}
use Rattle.tables.specs.Words.{wire_in}
use Rattle.rounds.specs.Round.{send}
use Rattle.rounds.specs.Steps.{wiring, bare, state_at, CanRun, runs_kept}
use Rattle.rounds.specs.Links.{numbers_from}
use Rattle.rounds.proofs.LinksLaws.{met_all, sending_start, sending_next, sending_falls, sending_end}
use Rattle.rounds.proofs.StepsLaws.{send_bare, runs_reach, reach_sends, sent_listed}
use Rattle.rounds.proofs.leaving.LinkedWiring.send_leaving.Goals as goal

pub offset_bounds-self-i : goal.offset_bounds-self-i
offset_bounds-self-i c = omega (arith, c.requires.0.2)

pub bounds-self-i : goal.bounds-self-i
bounds-self-i c = c.requires.0.2

pub loop-k-init : goal.loop-k-init
loop-k-init c =
    let a = c.args in
    let w = a.self.now in
    let f = c.requires.0.1.1 in (
      refl,
      refl,
      c.requires.1,
      sending_start (bare a.components.now) w.wires.now w.after.now w.counts.wires (get_or w.head.now a.i 0)
          (state_at a.inputs.now a.outputs.now (take a.count a.following.now) []) _ (numbers_from w.wires.now a.i f.order) c.wide-k.ensures
          (f.links.linked a.i c.requires.0.2),
    )

pub wire_at-wire-requires : goal.wire_at-wire-requires
wire_at-wire-requires c = omega (arith, c.loop-k-test.true, c.requires.0.0.wires_in_lem)

pub send_along-filled-requires : goal.send_along-filled-requires
send_along-filled-requires c =
    let l = c.loop-k in
    let w = c.args.self.now in
    let T = wiring c.args.components.now w.wires.now w.counts in
    let runs : CanRun T l.inputs c.args.outputs.now = runs_kept T _ _ _ _ c.requires.0.0 l.invariant.0 refl in (
      rw c.wire_at-wire.ensures
          (reach_sends c.args.components.now w.wires.now w.counts l.inputs c.args.outputs.now _
          (runs_reach c.args.components.now w.wires.now w.counts l.inputs c.args.outputs.now l.k runs c.loop-k-test.true)
          l.filled l.following l.invariant.2.fits),
      l.invariant.2.marked,
    )

pub offset_bounds-self-k : goal.offset_bounds-self-k
offset_bounds-self-k c = omega (arith, c.loop-k-test.true, c.requires.0.0.few_wires)

pub bounds-self-k : goal.bounds-self-k
bounds-self-k c = omega (arith, c.loop-k-test.true, c.requires.0.0.few_wires)

pub loop-k-smaller : goal.loop-k-smaller
loop-k-smaller c =
    let a = c.args in
    let w = a.self.now in
    sending_falls (bare a.components.now) w.wires.now w.after.now w.counts.wires _
    (state_at a.inputs.now a.outputs.now (take a.count a.following.now) []) c.loop-k.k _ _ c.loop-k-test.true c.wide-k-in-loop-k.ensures
    c.loop-k.invariant.3

pub loop-k-preserved : goal.loop-k-preserved
loop-k-preserved c =
    let l = c.loop-k in
    let a = c.args in
    let w = a.self.now in
    let T = wiring a.components.now w.wires.now w.counts in
    let runs : CanRun T l.inputs a.outputs.now = runs_kept T _ _ _ _ c.requires.0.0 l.invariant.0 refl in
    let e = c.wire_at-wire.ensures in
    let r = c.send_along-filled in (
      r.auto.inputs ∙ l.invariant.0,
      r.auto.following ∙ l.invariant.1,
      record {
        fits = sent_listed a.components.now w.wires.now w.counts l.inputs a.outputs.now _
            (runs_reach a.components.now w.wires.now w.counts l.inputs a.outputs.now l.k runs c.loop-k-test.true)
            l.filled l.following l.invariant.2.fits _ _ _ (rw e at r.ensures.0) r.auto.following;
        marked = r.ensures.1;
      },
      sending_next (bare a.components.now) w.wires.now w.after.now w.counts.wires _
          (state_at a.inputs.now a.outputs.now (take a.count a.following.now) []) l.k _ _ _ c.loop-k-test.true
          c.wide-k-in-loop-k.ensures (rw e at r.ensures.0.state ∙ send_bare a.components.now _ _) l.invariant.3,
    )

pub returns : goal.returns
returns c =
    let l = c.loop-k in
    let a = c.args in
    let w = a.self.now in
    let f = c.requires.0.1.1 in
    let ks = numbers_from w.wires.now a.i f.order in
    let T = bare a.components.now in
    let s = state_at a.inputs.now a.outputs.now (take a.count a.following.now) [] in
    let p = f.links.linked a.i c.requires.0.2 in
    let e = met_all w.counts.wires w.after.now (get_or w.head.now a.i 0) ks p in (
      sending_end T w.wires.now w.after.now w.counts.wires (get_or w.head.now a.i 0) s l.k _ (omega arith) l.invariant.3 ks p
          ∙ ap (λ (js : List ℕ). foldl (send T) s (map (wire_in w.wires.now) js)) (sym e),
      l.invariant.2,
    )
