-- `check6`: the tests stand in the order of the definition, and each decides it at its way out.
-- Assumes nothing.
use Rattle.checks.proofs.ChecksLaws.{fails_other, fails6_number, fails6_depth}
use Rattle.checks.proofs.check6.Goals as goal

pub returns-in_default : goal.returns-in_default
returns-in_default c = search (fails_other)

pub returns-then-p-ge256 : goal.returns-then-p-ge256
returns-then-p-ge256 c = search (fails6_number)

pub returns : goal.returns
returns c = search (fails6_depth)
