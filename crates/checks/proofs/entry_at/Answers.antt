-- `entry_at`: what the record read there enters.
-- Assumes nothing.
use Rattle.checks.specs.Checks.{EntryAs}
use mathlib.Core.Path.{subst}
use Rattle.checks.proofs.entry_at.Goals as goal

pub returns : goal.returns
returns c = subst (EntryAs c.entry_of.result) c.record_at.ensures.0 c.entry_of.ensures
