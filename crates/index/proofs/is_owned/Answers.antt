-- `is_owned`: the tests of the definition, at what the record says.
-- Assumes nothing.
use Rattle.index.proofs.NumberingLaws.{owned_refused, owned_taken}
use Rattle.index.proofs.is_owned.Goals as goal

pub returns-in_default : goal.returns-in_default
returns-in_default c = search (owned_refused)

pub returns : goal.returns
returns c = search (owned_taken)
