-- `put_components`: the first line, then a line for each.
-- Assumes nothing.
use mathlib.Core.List.{List}
use Prim.Native.Nat.{ℕ, ◌-◌, ◌≤◌}
use Rattle.lists.specs.Lists.{from, joined}
use Rattle.tables.specs.Words.{fields_in, id_in}
use Rattle.text.proofs.TextLaws.{ToCome}
use Rattle.lines.specs.Lines.{component_line}
use Rattle.lines.proofs.put_components.Given as goal

abbrev pub line : List ℕ → ℕ → List ℕ
line cs i = component_line i (fields_in cs i).kind (id_in cs i)

abbrev pub invariant-loop-i : goal.invariant-loop-i
invariant-loop-i l =
    (l.i ≤ l.count) × ToCome l.initial.out l.initial.next (joined (line l.components) (from 0 l.count)) l.out l.next (joined (line l.components) (from l.i (l.count - l.i)))
