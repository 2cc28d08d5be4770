-- `lay_words`: the words passed are laid over the lent ones.
-- Assumes nothing.
use mathlib.Core.Path.{◌≡◌}
use Prim.Native.Nat.{◌≤◌}
use lib.ListN.{length, take}
use Rattle.lists.specs.Lists.{overlay}
use Rattle.words.proofs.answers.lay_words.Given as goal

abbrev pub invariant-loop-at : goal.invariant-loop-at
invariant-loop-at g l = (l.at ≤ length l.word-items) × (length l.lent ≡ length l.initial.lent) × (l.lent ≡ overlay (take l.at l.word-items) l.initial.lent)
