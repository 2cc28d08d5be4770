-- `send_leaving` over links: what the wires still met make of the state is what all that are met make of the state that came in.
-- Assumes nothing.
use mathlib.Core.Path.{◌≡◌}
use mathlib.Core.List.{[]}
use lib.ListN.{length, get_or, take}
use Rattle.rounds.specs.Steps.{bare, state_at}
use Rattle.rounds.specs.Links.{met_from, ListMarked}
use Rattle.rounds.proofs.LinksLaws.{Sending}
use Rattle.rounds.proofs.leaving.LinkedWiring.send_leaving.Given as goal

abbrev pub invariant-loop-k : goal.invariant-loop-k
invariant-loop-k l =
    (length l.inputs ≡ length l.initial.inputs) × (length l.following ≡ length l.initial.following)
    × ListMarked (bare l.components) l.filled l.following l.listed
    × Sending (bare l.components) l.self.wires.now l.self.after.now l.self.counts.wires (get_or l.self.head.now l.i 0)
    (state_at l.initial.inputs l.outputs (take l.count l.initial.following) []) l.k (state_at l.inputs l.outputs (take l.filled l.following) [])

abbrev pub decreases-loop-k : goal.decreases-loop-k
decreases-loop-k l = length (met_from l.self.counts.wires l.self.after.now l.self.counts.wires l.k)
