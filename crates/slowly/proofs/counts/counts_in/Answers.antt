-- `counts_in`: word by word.
-- Assumes nothing.
use Rattle.slowly.specs.Slowly.{slow_counts_in}
use Rattle.slowly.proofs.counts.counts_in.Goals as goal

pub returns : goal.returns
unfolding slow_counts_in
returns c = cc
