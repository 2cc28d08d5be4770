-- `check4`: the tests are those of the definition, at the record and the one before it.
-- Assumes nothing.
use Rattle.checks.proofs.ChecksLaws.{fails4_first, not_refused, fails4_after, fails4_later}
use Rattle.checks.proofs.check4.Goals as goal

pub returns-then-p-eq0 : goal.returns-then-p-eq0
returns-then-p-eq0 c = search (fails4_first)

pub returns-in_default : goal.returns-in_default
returns-in_default c = absurd (search (not_refused))

pub returns-in_default-known_at : goal.returns-in_default-known_at
returns-in_default-known_at c = search (fails4_after)

pub returns : goal.returns
returns c = search (fails4_later)
