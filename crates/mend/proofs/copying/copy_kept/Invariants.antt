-- `copy_kept`: the kept records passed so far are copied.
-- Assumes nothing.
use Prim.Native.Nat.{◌*◌, ◌≤◌}
use Rattle.lists.proofs.LayingLaws.{Laid}
use Rattle.mend.proofs.CopiesLaws.{lays_kept}
use Rattle.mend.proofs.copying.copy_kept.Given as goal

abbrev pub invariant-loop-p : goal.invariant-loop-p
invariant-loop-p l = (l.at ≤ 24 * l.p) × Laid (lays_kept l.file) l.p l.initial.buffer l.buffer l.at
