-- `connect_all`: the wires of the records passed so far are laid.
-- Assumes nothing.
use mathlib.Core.Path.{◌≡◌}
use Prim.Native.Nat.{◌/◌, ◌≤◌}
use lib.ListN.{length}
use Rattle.component.specs.Record.{record_at}
use Rattle.laying.specs.Laying.{wires_given}
use Rattle.lists.proofs.LayingLaws.{Laid}
use Rattle.tables.specs.Words.{wire_place}
use Rattle.laying.proofs.wires.connect_all.Given as goal

abbrev pub invariant-loop-p : goal.invariant-loop-p
invariant-loop-p l =
    (l.p ≤ length l.file / 24) × (length l.targets ≡ 2048)
    × Laid (wires_given (record_at l.file) (length l.file / 24)) l.p l.initial.wires l.wires (wire_place l.at)
