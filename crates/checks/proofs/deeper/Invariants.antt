-- `deeper`: the invariant: what is asked of the present component, with the depth left, is the answer.
-- Assumes nothing.
use mathlib.Core.Path.{◌≡◌}
use Prim.Native.Nat.{◌-◌}
use Rattle.component.specs.Record.{record_at}
use Rattle.component.specs.Drawing.{deeper}
use Rattle.checks.proofs.deeper.Given as goal

abbrev pub invariant-loop : goal.invariant-loop
invariant-loop l = deeper (record_at l.file) (l.d - l.counter) l.inner ≡ deeper (record_at l.file) l.d l.p
