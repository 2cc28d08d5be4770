-- `counts_in`: word by word.
-- Assumes nothing.
use Rattle.words.specs.Words.{counts_in}
use Rattle.words.proofs.counts.counts_in.Goals as goal

pub returns : goal.returns
unfolding counts_in
returns c = cc
