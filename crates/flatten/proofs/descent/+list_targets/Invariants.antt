-- `list_targets`: the depth left falls at every call. The invariant is `Listing`: what is listed and what the maps to come give is what the
-- input leads to.
-- Assumes nothing.
use Rattle.std.proofs.Common.{◌-◌}
use Rattle.lists.specs.Lists.{from, joined}
use Rattle.component.specs.Record.{record_at, record_count}
use Rattle.flatten.specs.Descent.{inputs_below}
use Rattle.flatten.proofs.DescentLaws.{given}
use Rattle.flatten.proofs.TargetsLaws.{Listing}
use Rattle.flatten.proofs.descent.+list_targets.Given as goal

abbrev pub decreases-list_targets : goal.decreases-list_targets
decreases-list_targets l = l.depth

abbrev pub invariant-loop-q : goal.invariant-loop-q
invariant-loop-q l =
    Listing l.fn.targets l.fn.at (inputs_below (record_at l.fn.file) (record_count l.fn.file) l.fn.depth l.fn.c l.fn.i) l.targets l.next
    (joined (given (record_at l.fn.file) (record_count l.fn.file) (l.fn.depth - 1) l.fn.c l.fn.i) (from l.q (l.q-end - l.q)))
