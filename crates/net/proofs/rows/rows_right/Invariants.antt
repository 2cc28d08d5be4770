-- `rows_right`: the rows so far are right, their ids are distinct and marked, and the widths of their ports are noted.
-- Assumes nothing.
use mathlib.Core.Path.{◌≡◌}
use mathlib.Core.Bool.{true}
use mathlib.Core.List.{[], map}
use Prim.Native.Nat.{◌-◌, ◌≤◌}
use Rattle.lists.specs.Lists.{from, every, distinct}
use Rattle.tables.specs.Words.{id_in, uncounted}
use Rattle.net.specs.Net.{input_sum, output_sum}
use Rattle.net.specs.Parts.{row_right, IdsMarked, Widths}
use Rattle.net.proofs.rows.rows_right.Given as goal

abbrev pub invariant-loop-i : goal.invariant-loop-i
invariant-loop-i l =
    (l.i ≤ l.n) × (l.next.input ≡ input_sum (uncounted l.components []) l.i) × (l.next.output ≡ output_sum (uncounted l.components []) l.i)
    × (l.next.input ≤ l.counts.inputs) × (l.next.output ≤ l.counts.outputs)
    × (every (row_right l.components l.inputs l.outputs l.counts) (from l.i (l.n - l.i)) ≡ every (row_right l.components l.inputs l.outputs l.counts) (from 0 l.n))
    × IdsMarked l.components l.i l.marks × (distinct (map (id_in l.components) (from 0 l.i)) ≡ true) × Widths l.components l.i l.entering l.leaving
