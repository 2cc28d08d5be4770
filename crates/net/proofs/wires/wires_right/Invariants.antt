-- `wires_right`: the wires still to come have ends that exist exactly if all have, and enter inputs that are fresh exactly if no input has
-- two wires.
-- Assumes nothing.
use mathlib.Core.Path.{◌≡◌}
use mathlib.Core.Bool.{Bool}
use mathlib.Core.List.{List, [], map}
use Prim.Native.Nat.{ℕ, ◌-◌, ◌≤◌}
use lib.ListN.{length}
use Rattle.lists.specs.Lists.{from, every, distinct}
use Rattle.tables.specs.declared.Counts.{Counts}
use Rattle.tables.specs.Words.{wire_in}
use Rattle.net.specs.Net.{wire_fits}
use Rattle.net.specs.Parts.{lent, place_in}
use Rattle.net.proofs.MarksLaws.{fresh}
use Rattle.net.proofs.wires.wires_right.Given as goal

-- Wire k fits.
abbrev pub fits_at : List ℕ → List ℕ → Counts → ℕ → Bool
fits_at cs ws m k = wire_fits (lent cs [] [] [] m) (wire_in ws k)

abbrev pub invariant-loop-k : goal.invariant-loop-k
invariant-loop-k l =
    (l.k ≤ l.n) × (length l.seen ≡ 1024)
    × (every (fits_at l.components l.wires l.counts) (from l.k (l.n - l.k)) ≡ every (fits_at l.components l.wires l.counts) (from 0 l.n))
    × (fresh l.seen (map (place_in l.components l.wires) (from l.k (l.n - l.k))) ≡ distinct (map (place_in l.components l.wires) (from 0 l.n)))
