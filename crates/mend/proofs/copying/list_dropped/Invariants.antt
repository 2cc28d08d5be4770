-- `list_dropped`: the dropped positions passed so far are listed; a part record's is behind them.
-- Assumes nothing.
use Prim.Native.Nat.{◌≤◌}
use mathlib.Core.Path.{◌≡◌}
use lib.ListN.{length}
use Rattle.lists.proofs.LayingLaws.{Laid}
use Rattle.mend.proofs.CopiesLaws.{lists}
use Rattle.mend.proofs.copying.list_dropped.Given as goal

abbrev pub invariant-loop-p : goal.invariant-loop-p
invariant-loop-p l =
    (l.count ≤ l.p) × Laid (lists l.file) l.p l.initial.list l.list l.count × (length l.list ≡ length l.initial.list)
