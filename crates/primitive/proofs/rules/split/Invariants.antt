-- `split`: the outputs before i are written, their bits are set, and what is left is the input, halved i times.
-- Assumes nothing.
use mathlib.Core.Path.{◌≡◌}
use Prim.Native.Nat.{◌/◌, ◌^◌, ◌≤◌}
use lib.ListN.{length, take}
use Rattle.primitive.specs.Evaluate.{split, moved}
use Rattle.primitive.proofs.MovedLaws.{written}
use Rattle.primitive.proofs.rules.split.Given as goal

abbrev pub invariant-loop-i : goal.invariant-loop-i
invariant-loop-i l =
    let after = split l.input (length l.initial.outputs) in
    (l.i ≤ length l.initial.outputs) × (length l.outputs ≡ length l.initial.outputs) × (l.outputs ≡ written l.initial.outputs after l.i)
    × (l.bits ≡ moved (take l.i l.initial.outputs) (take l.i after)) × (l.left ≡ l.input / 2 ^ l.i)
