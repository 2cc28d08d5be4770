-- `values_fit`: the values of the components still to come fit exactly if those of all do.
-- Assumes nothing.
use mathlib.Core.Path.{◌≡◌}
use Prim.Native.Nat.{◌-◌}
use Rattle.lists.specs.Lists.{from, every}
use Rattle.net.specs.Parts.{values_fit_at}
use Rattle.slow.proofs.preparing.values_fit.Given as goal

abbrev pub invariant-loop-i : goal.invariant-loop-i
invariant-loop-i l =
    every (values_fit_at l.components l.inputs l.outputs) (from l.i (l.count - l.i))
    ≡ every (values_fit_at l.components l.inputs l.outputs) (from 0 l.count)
