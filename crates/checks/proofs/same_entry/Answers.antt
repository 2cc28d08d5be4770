-- `same_entry`: the record at q enters nothing, or its entry is compared part by part.
-- Assumes nothing.
use mathlib.Core.Path.{◌∙◌}
use Rattle.std.specs.Prelude.{Some}
use Rattle.component.specs.Record.{record_at}
use Rattle.checks.proofs.ChecksLaws.{enters_none, same_as}
use Rattle.checks.proofs.same_entry.Goals as goal

pub returns-in_default : goal.returns-in_default
returns-in_default c = search (enters_none)

pub returns : goal.returns
returns c =
    let a = c.args in
    c.eq.ensures ∙ same_as (record_at a.file.now a.q) (Some c.in-Some.other) a.entry (rw c.in-Some.is at c.entry_at.ensures)
