use Prim.Native.Nat.{◌-◌, ◌<◌}
use Rattle.primitive.specs.Own.{Doubled}
use Rattle.primitive.proofs.remainder.doubled.Given as goal

abbrev pub invariant-loop-multiple : goal.invariant-loop-multiple
invariant-loop-multiple l = Doubled l.divisor l.multiple × (0 < l.multiple)

abbrev pub decreases-loop-multiple : goal.decreases-loop-multiple
decreases-loop-multiple l = l.number - l.multiple
