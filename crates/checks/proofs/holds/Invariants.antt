-- `holds`: the invariant: what is asked of the present component, with the owners left, is the answer.
-- Assumes nothing.
use mathlib.Core.Path.{◌≡◌}
use Prim.Native.Nat.{◌-◌}
use Rattle.component.specs.Record.{record_at}
use Rattle.component.specs.Drawing.{holds}
use Rattle.checks.proofs.holds.Given as goal

abbrev pub invariant-loop : goal.invariant-loop
invariant-loop l =
    holds (record_at l.file) (l.f - l.counter) l.o l.inner ≡ holds (record_at l.file) l.f l.o l.q
