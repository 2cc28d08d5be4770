-- `send_to`: what the wires to the targets still to come make of the state is what all of them make of the state that came in.
-- Assumes nothing.
use mathlib.Core.Path.{◌≡◌}
use mathlib.Core.List.{[], map, foldl}
use Prim.Native.Nat.{◌-◌}
use lib.ListN.{length, take}
use Rattle.lists.specs.Lists.{from}
use Rattle.flatten.specs.Targets.{target_in, targets_in}
use Rattle.rounds.specs.Round.{send}
use Rattle.rounds.specs.Steps.{bare, state_at}
use Rattle.rounds.specs.Links.{ListMarked}
use Rattle.slow.specs.Sending.{lead_to}
use Rattle.slow.proofs.leading.send_to.Given as goal

abbrev pub invariant-loop-k : goal.invariant-loop-k
invariant-loop-k l =
    let T = bare l.components in
    (length l.inputs ≡ length l.initial.inputs) × (length l.following ≡ length l.initial.following) × ListMarked T l.reached l.following l.listed
    × (foldl (send T) (state_at l.inputs l.outputs (take l.reached l.following) []) (map (λ j. lead_to l.indexes l.from (target_in l.targets j)) (from l.k (l.count - l.k)))
    ≡ foldl (send T) (state_at l.initial.inputs l.outputs (take l.filled l.initial.following) []) (map (lead_to l.indexes l.from) (targets_in l.targets l.count)))
