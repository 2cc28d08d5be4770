-- `lay_components`: the entries of the primitives passed so far are laid, and what stands before the next is known.
-- Assumes nothing.
use mathlib.Core.Path.{◌≡◌}
use Prim.Native.Nat.{◌≤◌}
use Rattle.component.specs.Record.{record_at, record_count}
use Rattle.laying.specs.Laying.{before_at, row_at}
use Rattle.lists.proofs.LayingLaws.{Laid}
use Rattle.tables.specs.Words.{row_place}
use Rattle.laying.proofs.rows.lay_components.Given as goal

abbrev pub invariant-loop-p : goal.invariant-loop-p
invariant-loop-p l =
    (l.p ≤ record_count l.file) × (l.before ≡ before_at (record_at l.file) (record_count l.file) l.p)
    × Laid (row_at (record_at l.file) (record_count l.file)) l.p l.initial.components l.components (row_place l.before.components)
