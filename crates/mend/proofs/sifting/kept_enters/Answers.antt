-- `kept_enters`: the entry read is compared part by part.
-- Assumes nothing.
use mathlib.Core.Path.{subst, ◌∙◌}
use Rattle.checks.specs.Checks.{EntryAs}
use Rattle.checks.proofs.ChecksLaws.{same_as}
use Rattle.mend.proofs.SiftLaws.{kept_same}
use Rattle.mend.proofs.sifting.kept_enters.Goals as goal

pub returns : goal.returns
returns c =
    let a = c.args in
    let t = subst (EntryAs c.entry_of.result) c.loose_at.ensures c.entry_of.ensures in
    kept_same a.file.now a.kept.now a.q c.eq.result a.entry (c.eq.ensures ∙ same_as _ c.entry_of.result a.entry t)
