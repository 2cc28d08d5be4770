-- `judge_wires`: the wires still to come agree, where they leave a marked component, exactly if all do.
-- Assumes nothing.
use mathlib.Core.Path.{◌≡◌}
use mathlib.Core.Bool.{Bool, not, ◌||◌}
use mathlib.Core.List.{List, []}
use Prim.Native.Nat.{ℕ, ◌-◌, ◌≤◌}
use Rattle.lists.specs.Lists.{from, every, has}
use Rattle.tables.specs.declared.Wire.{Wire}
use Rattle.tables.specs.Words.{no_counts, wire_in}
use Rattle.net.specs.Parts.{lent}
use Rattle.rounds.specs.Links.{IsListed}
use Rattle.judging.specs.Judged.{wire_agrees}
use Rattle.judging.proofs.wires.judge_wires.Given as goal

-- What is tested of a wire, where the marks are of what xs names.
abbrev pub agrees : List ℕ → List ℕ → List ℕ → List ℕ → Wire → Bool
agrees cs is os xs w = not (has w.src.comp.0 xs) || wire_agrees (lent cs is os [] no_counts) w

abbrev pub invariant-loop-k : goal.invariant-loop-k
invariant-loop-k l =
    (l.k ≤ l.k-end)
    × ((xs : List ℕ) → IsListed l.marks xs
    → every (λ j. agrees l.components l.inputs l.outputs xs (wire_in l.wires j)) (from l.k (l.k-end - l.k))
    ≡ every (λ j. agrees l.components l.inputs l.outputs xs (wire_in l.wires j)) (from 0 l.k-end))
