-- `source_of`: the depth left falls at every call.
-- Assumes nothing.
use Rattle.flatten.proofs.descent.+source_of.Given as goal

abbrev pub decreases-source_of : goal.decreases-source_of
decreases-source_of l = l.depth
