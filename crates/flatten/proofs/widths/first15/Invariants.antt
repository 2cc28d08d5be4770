-- `first15`: the invariant: no record before p fails.
-- Assumes nothing.
use mathlib.Core.Path.{◌≡◌}
use Prim.Native.Nat.{◌/◌}
use lib.ListN.{length}
use Rattle.component.specs.Record.{record_at}
use Rattle.checks.proofs.PassesLaws.{NoneBefore}
use Rattle.flatten.specs.Descent.{fails15}
use Rattle.flatten.proofs.widths.first15.Given as goal

abbrev pub invariant-loop-p : goal.invariant-loop-p
invariant-loop-p l = NoneBefore (fails15 (record_at l.file) (length l.file / 24)) l.p × (length l.targets ≡ 2048)
