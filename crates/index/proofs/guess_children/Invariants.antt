-- `guess_children`: each step keeps the words below.
-- Assumes nothing.
use Rattle.index.specs.Index.{KeptBelow}
use Rattle.index.proofs.guess_children.Given as goal

abbrev pub invariant-loop-q : goal.invariant-loop-q
invariant-loop-q l = KeptBelow 2304 l.initial.index l.index
