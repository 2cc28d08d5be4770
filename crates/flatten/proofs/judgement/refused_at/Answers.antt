-- `refused_at`: the first record that fails, or none.
-- Assumes nothing.
use Rattle.flatten.proofs.JudgementLaws.{judged_refused, judged_passed}
use Rattle.flatten.proofs.judgement.refused_at.Goals as goal

pub returns-then-p-file : goal.returns-then-p-file
returns-then-p-file c = search (judged_refused)

pub returns : goal.returns
returns c = search (judged_passed)
