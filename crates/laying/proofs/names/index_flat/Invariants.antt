-- `index_flat`: the words of the components passed so far are their flat indexes, and the count is the next one's; past the records it stays.
-- Assumes nothing.
use mathlib.Core.Path.{◌≡◌}
use Prim.Native.Nat.{ℕ, ◌<◌}
use lib.ListN.{get_or}
use Rattle.component.specs.Record.{record_at, record_count}
use Rattle.flatten.specs.Descent.{flat as flatIndex}
use Rattle.laying.proofs.names.index_flat.Given as goal

abbrev pub invariant-loop-c : goal.invariant-loop-c
invariant-loop-c l =
    (l.count ≡ flatIndex (record_at l.file) (record_count l.file) l.c)
    × ((k : ℕ) → k < l.c → get_or l.entry-items k 0 ≡ flatIndex (record_at l.file) (record_count l.file) k)
