-- `show_side`: the ports passed are shown.
-- Assumes nothing.
use mathlib.Core.Path.{◌≡◌}
use Prim.Native.Nat.{◌≤◌}
use mathlib.Core.List.{map}
use lib.ListN.{length}
use lib.Seq.{sets}
use Rattle.lists.specs.Lists.{from}
use Rattle.value.specs.declared.Value.{Value}
use Rattle.component.specs.Record.{record_at, record_count}
use Rattle.look.specs.Looking.{ported, value_shown}
use Rattle.look.proofs.showing.show_side.Given as goal

abbrev pub invariant-loop-i : goal.invariant-loop-i
invariant-loop-i l =
    let shows = value_shown (record_at l.file) (record_count l.file) (ported l.components l.inputs l.outputs) l.side l.c in
    (l.i ≤ l.count) × (length l.numbers ≡ length l.initial.numbers) × (length l.widths ≡ length l.initial.widths)
    × (l.numbers ≡ sets l.initial.numbers l.at (map (λ (v : Value). v.number) (map shows (from 0 l.i))))
    × (l.widths ≡ sets l.initial.widths l.at (map (λ (v : Value). v.width) (map shows (from 0 l.i))))
