-- `first11`: the invariant: no record before p fails, and the sums are the ports of the primitives before p.
-- Assumes nothing.
use mathlib.Core.Path.{◌≡◌}
use Prim.Native.Nat.{◌≤◌}
use Rattle.component.specs.Record.{record_at}
use Rattle.component.specs.Drawing.{inputs_before, outputs_before, fails11}
use Rattle.checks.proofs.PassesLaws.{NoneBefore}
use Rattle.checks.proofs.passes.first11.Given as goal

abbrev pub invariant-loop-p : goal.invariant-loop-p
invariant-loop-p l = NoneBefore (fails11 (record_at l.file)) l.p × (l.inputs ≡ inputs_before (record_at l.file) l.p)
    × (l.outputs ≡ outputs_before (record_at l.file) l.p) × (l.inputs ≤ 1024) × (l.outputs ≤ 1024)
