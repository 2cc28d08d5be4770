-- `run_over`: the rounds so far, before the run that is still to come, are the whole run; each round leaves tables of which one can be made.
-- Assumes nothing.
use mathlib.Core.Path.{refl, sym, ◌∙◌}
use native.Mathlib.Omega.{arith}
use Rattle.tables.specs.Tables.{tables_of}
use Rattle.rounds.proofs.RoundLaws.{calm_lists}
use Rattle.simulator.proofs.MovedLaws.{counted_few}
use Rattle.simulator.proofs.RunLaws.{run_by-start, run_by-turn, run_by-end, test_going, test_below, counted_front}
use Rattle.simulator.proofs.runs.run_over.Goals as goal

pub loop-calm-init : goal.loop-calm-init
loop-calm-init g c =
    let a = c.args in (
      omega arith,
      omega arith,
      omega arith,
      refl,
      refl,
      refl,
      refl,
      refl,
      refl,
      c.requires,
      run_by-start (g.E.Engine.round_at a.engine.now a.time) (g.E.Engine.bits_at a.engine.now a.time) a.limit _,
    )

pub round-reached-requires : goal.round-reached-requires
round-reached-requires g c = (c.loop-calm.invariant.9, omega (arith, c.loop-calm.invariant.3))

pub overflow_cast-evaluations : goal.overflow_cast-evaluations
overflow_cast-evaluations g c = omega (arith, c.round-reached.ensures.5)

pub overflow_add-evaluations : goal.overflow_add-evaluations
overflow_add-evaluations g c =
    let l = c.loop-calm in
    omega (arith, c.round-reached.ensures.5, test_below l.calm l.rounds c.args.limit c.loop-calm-test.true, l.invariant.1, c.ranges)

pub count_moved-moved-requires : goal.count_moved-moved-requires
count_moved-moved-requires g c =
    let r = c.round-reached in
    (omega (arith, r.ensures.5, r.auto.moved, c.loop-calm.invariant.3), r.ensures.5)

pub overflow_add-moved : goal.overflow_add-moved
overflow_add-moved g c =
    let l = c.loop-calm in
    let r = c.round-reached in
    let few = counted_few _ _ _ (omega (arith, r.ensures.5, r.auto.moved, l.invariant.3)) r.ensures.5 c.count_moved-moved.ensures in
    omega (arith, test_below l.calm l.rounds c.args.limit c.loop-calm-test.true, l.invariant.2, few, c.ranges)

pub overflow_add-rounds : goal.overflow_add-rounds
overflow_add-rounds g c =
    let l = c.loop-calm in
    omega (arith, test_below l.calm l.rounds c.args.limit c.loop-calm-test.true, c.ranges)

pub net_calm-calm-requires : goal.net_calm-calm-requires
net_calm-calm-requires g c = c.round-reached.ensures.6

pub loop-calm-smaller : goal.loop-calm-smaller
loop-calm-smaller g c =
    let l = c.loop-calm in
    omega (arith, test_below l.calm l.rounds c.args.limit c.loop-calm-test.true)

pub loop-calm-preserved : goal.loop-calm-preserved
loop-calm-preserved g c =
    let a = c.args in
    let l = c.loop-calm in
    let r = c.round-reached in
    let ws = g.E.Engine.wires a.engine.now in
    let T = tables_of a.components.now l.inputs l.outputs ws l.current l.following l.standing l.reached in
    let U = tables_of a.components.now r.new.inputs r.new.outputs ws r.new.current r.new.following r.new.standing r.result in
    let b = test_below l.calm l.rounds a.limit c.loop-calm-test.true in
    let few = counted_few _ _ _ (omega (arith, r.ensures.5, r.auto.moved, l.invariant.3)) r.ensures.5 c.count_moved-moved.ensures in (
      omega (arith, b),
      omega (arith, l.invariant.1, r.ensures.5),
      omega (arith, l.invariant.2, few),
      r.auto.moved ∙ l.invariant.3,
      r.auto.inputs ∙ l.invariant.4,
      r.auto.outputs ∙ l.invariant.5,
      r.auto.current ∙ l.invariant.6,
      r.auto.following ∙ l.invariant.7,
      r.auto.standing ∙ l.invariant.8,
      r.ensures.2,
      run_by-turn (g.E.Engine.round_at a.engine.now a.time) (g.E.Engine.bits_at a.engine.now a.time) T U (sym r.ensures.0) r.ensures.3 a.limit
          l.rounds l.evaluations l.moved _ _ _ b (c.net_calm-calm.ensures ∙ calm_lists U)
          (counted_front _ _ _ _ _ r.ensures.4 r.ensures.1 c.count_moved-moved.ensures)
          (rw (test_going l.calm l.rounds a.limit c.loop-calm-test.true) at l.invariant.10),
    )

pub returns : goal.returns
returns g c =
    let a = c.args in
    let l = c.loop-calm in
    let T = tables_of a.components.now l.inputs l.outputs (g.E.Engine.wires a.engine.now) l.current l.following l.standing l.reached in
    run_by-end (g.E.Engine.round_at a.engine.now a.time) (g.E.Engine.bits_at a.engine.now a.time) l.calm a.limit l.rounds l.evaluations l.moved T _
    c.loop-calm-test.false l.invariant.10
