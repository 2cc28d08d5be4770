-- `check3`: what reading answers.
-- Assumes nothing.
use Rattle.checks.proofs.ChecksLaws.{fails3_refused, fails3_taken}
use Rattle.checks.proofs.check3.Goals as goal

pub returns-in_default : goal.returns-in_default
returns-in_default c = search (fails3_taken)

pub returns : goal.returns
returns c = search (fails3_refused)
