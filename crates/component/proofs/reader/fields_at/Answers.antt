-- `fields_at`: a component's own fields, and those of none.
-- Assumes nothing.
use mathlib.Core.Path.{sym}
use Rattle.component.proofs.RecordLaws.{unseen_fields, seen_fields}
use Rattle.component.proofs.reader.fields_at.Goals as goal

pub returns-in_default : goal.returns-in_default
returns-in_default c = sym (search (unseen_fields))

pub returns : goal.returns
returns c = sym (search (seen_fields))
