-- `count_up`: the numbers passed are written into the part that is counted, and the rest stays.
-- Assumes nothing.
use mathlib.Core.Path.{◌≡◌}
use lib.Seq.{sets}
use Rattle.lists.specs.Lists.{from}
use Rattle.laying.proofs.names.count_up.Given as goal

abbrev pub invariant-loop-i : goal.invariant-loop-i
invariant-loop-i l = l.entry-items ≡ sets l.initial.entry-items 0 (from 0 l.i)
