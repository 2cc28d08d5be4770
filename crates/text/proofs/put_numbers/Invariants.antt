-- `put_numbers`: what is put so far is the numbers that the values so far gave.
-- Assumes nothing.
use mathlib.Core.List.{List}
use Prim.Native.Nat.{ℕ, ◌≤◌}
use lib.ListN.{length, take}
use Rattle.text.specs.Text.{spaced, Puts, Converted}
use Rattle.text.proofs.put_numbers.Given as goal

abbrev pub invariant-loop-number : goal.invariant-loop-number
invariant-loop-number g l =
    (l.number-index ≤ length l.numbers) × ((ns : List ℕ) × Converted g.T.Into.converts (take l.number-index l.numbers) ns × Puts l.initial.out l.at (spaced ns) l.out l.next)
