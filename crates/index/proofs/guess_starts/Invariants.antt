-- `guess_starts`: every write stands behind the words that are kept.
-- Assumes nothing.
use Rattle.index.specs.Index.{KeptBelow}
use Rattle.index.proofs.guess_starts.Given as goal

abbrev pub invariant-loop-o : goal.invariant-loop-o
invariant-loop-o l = KeptBelow 2304 l.initial.index l.index
