-- `run_over`: the rounds so far, before the run that is still to come, are the whole run; each round leaves tables of which one can be made.
-- Assumes nothing.
use mathlib.Core.Path.{◌≡◌}
use Prim.Native.Nat.{◌*◌, ◌≤◌, ◌-◌}
use lib.ListN.{length}
use Rattle.tables.specs.Tables.{tables_of}
use Rattle.simulator.specs.Calls.{run_by}
use Rattle.simulator.proofs.RunLaws.{on_top, stopped_by}
use Rattle.simulator.proofs.runs.run_over.Given as goal

abbrev pub invariant-loop-calm : goal.invariant-loop-calm
invariant-loop-calm g l =
    let ws = g.E.Engine.wires l.engine in
    let round = g.E.Engine.round_at l.engine l.time in
    let bits = g.E.Engine.bits_at l.engine l.time in
    let here = tables_of l.components l.inputs l.outputs ws l.current l.following l.standing l.reached in
    let came = tables_of l.components l.initial.inputs l.initial.outputs ws l.initial.current l.initial.following l.initial.standing l.initial.reached in
    (l.rounds ≤ l.limit) × (l.evaluations ≤ 256 * l.rounds) × (l.moved ≤ 16384 * l.rounds) × (length l.bits ≡ 256)
    × (length l.inputs ≡ length l.initial.inputs) × (length l.outputs ≡ length l.initial.outputs)
    × (length l.current ≡ length l.initial.current) × (length l.following ≡ length l.initial.following) × (length l.standing ≡ length l.initial.standing)
    × g.E.Engine.CanRound l.engine l.kept here
    × (on_top l.rounds l.evaluations l.moved (stopped_by round bits l.calm (l.limit - l.rounds) here) ≡ run_by round bits l.limit came)

abbrev pub decreases-loop-calm : goal.decreases-loop-calm
decreases-loop-calm g l = l.limit - l.rounds
