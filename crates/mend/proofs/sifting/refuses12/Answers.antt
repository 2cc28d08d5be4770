-- `refuses12`: of a record taken apart, whether its owner is no composite or what it names is missing.
-- Assumes nothing.
use Rattle.mend.proofs.SiftLaws.{refuses_none, refuses_is}
use Rattle.mend.proofs.sifting.refuses12.Goals as goal

pub returns-in_default : goal.returns-in_default
returns-in_default c = search (refuses_none)

pub returns : goal.returns
returns c = search (refuses_is)
