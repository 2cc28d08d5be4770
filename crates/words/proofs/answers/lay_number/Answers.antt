-- `lay_number`: the answer's words at the front of the lent ones, or nothing.
-- Assumes nothing.
use Rattle.words.proofs.WordsLaws.{none_laid}
use Rattle.words.proofs.answers.lay_number.Goals as goal

pub returns-in-Err-clause-laid : goal.returns-in-Err-clause-laid
returns-in-Err-clause-laid g c = rw c.in-Err.is (none_laid c.args.found.now)
