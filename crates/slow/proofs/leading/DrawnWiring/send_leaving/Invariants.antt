-- `send_leaving` over the drawing: what the records still to come make of the state is what all of them make of the state that came in.
-- Assumes nothing.
use mathlib.Core.Path.{◌≡◌}
use mathlib.Core.List.{[], foldl}
use Prim.Native.Nat.{◌-◌}
use lib.ListN.{length, take}
use Rattle.lists.specs.Lists.{from, joined}
use Rattle.component.specs.Record.{record_at, record_count}
use Rattle.rounds.specs.Round.{send}
use Rattle.rounds.specs.Steps.{bare, state_at}
use Rattle.rounds.specs.Links.{ListMarked}
use Rattle.slow.specs.Slow.{leaving_by, leaving}
use Rattle.slow.proofs.leading.DrawnWiring.send_leaving.Given as goal

abbrev pub invariant-loop-p : goal.invariant-loop-p
invariant-loop-p l =
    let T = bare l.components in
    let n = record_count l.self.file.now in
    (length l.inputs ≡ length l.initial.inputs) × (length l.following ≡ length l.initial.following) × (length l.targets ≡ 2048)
    × ListMarked T l.reached l.following l.listed
    × (foldl (send T) (state_at l.inputs l.outputs (take l.reached l.following) []) (joined (leaving_by (record_at l.self.file.now) n l.i) (from l.p (n - l.p)))
    ≡ foldl (send T) (state_at l.initial.inputs l.outputs (take l.count l.initial.following) []) (leaving (record_at l.self.file.now) n l.i))
