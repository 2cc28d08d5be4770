-- `count_high`: what was counted, and the high ports still to come, are all high ports.
-- Assumes nothing.
use mathlib.Core.Path.{◌≡◌}
use Prim.Native.Nat.{◌+◌, ◌≤◌}
use lib.ListN.{length, drop}
use Rattle.primitive.specs.Evaluate.{highs}
use Rattle.primitive.proofs.rules.count_high.Given as goal

abbrev pub invariant-loop-port : goal.invariant-loop-port
invariant-loop-port l = (l.port-index ≤ length l.ports) × (l.count ≤ l.port-index) × (l.count + highs (drop l.port-index l.ports) ≡ highs l.ports)
