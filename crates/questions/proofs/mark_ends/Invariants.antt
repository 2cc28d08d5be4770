-- `mark_ends`: after the wires passed, a component is marked exactly if one of them joins it to component i, or if it
-- was.
-- Assumes nothing.
use mathlib.Core.Path.{◌≡◌}
use mathlib.Core.Bool.{cond}
use Prim.Native.Nat.{ℕ}
use lib.ListN.{length, get_or}
use Rattle.questions.specs.Asked.{meets}
use Rattle.questions.proofs.mark_ends.Given as goal

abbrev pub invariant-loop-k : goal.invariant-loop-k
invariant-loop-k l =
    (length l.marks ≡ length l.initial.marks)
    × ((j : ℕ) → get_or l.marks j 0 ≡ cond (meets l.wires l.k l.near l.far l.i j) 1 (get_or l.initial.marks j 0))
