-- `mark`: exactly what the entries passed so far name is marked.
-- Assumes nothing.
use lib.ListN.{take}
use Rattle.rounds.specs.Links.{IsListed}
use Rattle.rounds.proofs.marks.mark.Given as goal

abbrev pub invariant-loop-entry : goal.invariant-loop-entry
invariant-loop-entry l = IsListed l.marks (take l.entry-index l.entry-items)
