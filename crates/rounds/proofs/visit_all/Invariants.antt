-- `visit_all`: what the components still to come make of the state is what all of them make of the state that came in.
-- Assumes nothing.
use mathlib.Core.Path.{◌≡◌}
use mathlib.Core.List.{foldl}
use lib.ListN.{length, take}
use lib.Seq.{slice}
use Rattle.rounds.specs.Round.{visit}
use Rattle.rounds.specs.Steps.{bare, state_at}
use Rattle.rounds.specs.Links.{ListMarked, ListCovered}
use Rattle.rounds.proofs.MovedLaws.{BitsSo}
use Rattle.rounds.proofs.visit_all.Given as goal

abbrev pub invariant-loop-k : goal.invariant-loop-k
invariant-loop-k g l =
    let T = bare l.components in
    let ws = g.W.Wiring.leaving l.wiring in
    let came = state_at l.initial.inputs l.initial.outputs (take l.initial.reached.following l.initial.following) (take l.initial.reached.standing l.initial.standing) in
    let now = state_at l.inputs l.outputs (take l.reached.following l.following) (take l.reached.standing l.standing) in
    (length l.inputs ≡ length l.initial.inputs) × (length l.outputs ≡ length l.initial.outputs)
    × (length l.following ≡ length l.initial.following) × (length l.standing ≡ length l.initial.standing) × (length l.moved ≡ length l.initial.moved)
    × ListMarked T l.reached.following l.following l.listed × ListCovered l.reached.standing l.standing l.stood
    × (foldl (visit T ws l.time) now (slice l.k l.count l.list) ≡ foldl (visit T ws l.time) came (take l.count l.list))
    × BitsSo T ws l.time l.list l.count came l.initial.moved l.k now l.moved
