-- `lay_outputs`: the starting values of the primitives passed so far are laid.
-- Assumes nothing.
use Prim.Native.Nat.{◌≤◌}
use Rattle.component.specs.Record.{record_at, record_count}
use Rattle.laying.specs.Laying.{outputs_laid}
use Rattle.lists.proofs.LayingLaws.{Laid}
use Rattle.laying.proofs.rows.lay_outputs.Given as goal

abbrev pub invariant-loop-p : goal.invariant-loop-p
invariant-loop-p l =
    (l.p ≤ record_count l.file) × Laid (outputs_laid (record_at l.file)) l.p l.initial.outputs l.outputs l.at
