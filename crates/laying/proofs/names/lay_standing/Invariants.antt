-- `lay_standing`: the Consts and Clocks passed so far are named by their flat indexes.
-- Assumes nothing.
use mathlib.Core.Path.{◌≡◌}
use Prim.Native.Nat.{◌≤◌}
use Rattle.component.specs.Record.{record_at, record_count}
use Rattle.flatten.specs.Descent.{flat}
use Rattle.laying.specs.Laying.{standing_at}
use Rattle.lists.proofs.LayingLaws.{Laid}
use Rattle.laying.proofs.names.lay_standing.Given as goal

abbrev pub invariant-loop-p : goal.invariant-loop-p
invariant-loop-p l =
    (l.p ≤ record_count l.file) × (l.stood.components ≡ flat (record_at l.file) (record_count l.file) l.p)
    × Laid (standing_at (record_at l.file) (record_count l.file)) l.p l.initial.standing l.standing l.stood.count
