-- `put_wires`: the first line, then a line for each.
-- Assumes nothing.
use mathlib.Core.List.{List}
use Prim.Native.Nat.{ℕ, ◌-◌, ◌≤◌}
use Rattle.lists.specs.Lists.{from, joined}
use Rattle.tables.specs.Words.{wire_in}
use Rattle.text.proofs.TextLaws.{ToCome}
use Rattle.lines.specs.Lines.{wire_line}
use Rattle.lines.proofs.put_wires.Given as goal

abbrev pub line : List ℕ → ℕ → List ℕ
line ws k = wire_line (wire_in ws k)

abbrev pub invariant-loop-k : goal.invariant-loop-k
invariant-loop-k l =
    (l.k ≤ l.count) × ToCome l.initial.out l.initial.next (joined (line l.wires) (from 0 l.count)) l.out l.next (joined (line l.wires) (from l.k (l.count - l.k)))
