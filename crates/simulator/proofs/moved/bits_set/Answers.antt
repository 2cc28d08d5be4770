-- `bits_set`: the machine's count of a word's bits.
-- Assumes nothing.
use Rattle.simulator.proofs.MovedLaws.{bits_set-ones}
use Rattle.simulator.proofs.moved.bits_set.Goals as goal

pub returns : goal.returns
returns c = bits_set-ones c.args.word c.ranges.word.fits
